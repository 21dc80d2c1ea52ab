use Rattle.std.proofs.Common.{sym}
use Rattle.std.proofs.Math.Path.{subst}
use Rattle.page_plan.specs.Walking.{IsAt}
use Rattle.client_plan.proofs.Readied.{stood}
use Rattle.client_plan.proofs.planning.walked.Goals as goal

pub returns : goal.returns
returns c = λ r p roots view same trees.
    let walk : IsAt r.roots p r.page.view c.in_ok-walker.walker = subst (λ ns. IsAt ns p r.page.view c.in_ok-walker.walker) (sym roots) (c.in_ok-walker.ensures p r.page.view) in
    let next = c.in_ok-next.ensures.next r p view same trees walk in
    (next, stood r p c.in_ok-next.next c.next_of.new.walker (c.in_ok-next.ensures.walk r p view same walk))
