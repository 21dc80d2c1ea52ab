use Rattle.std.proofs.Common.{sym}
use Rattle.std.proofs.Math.Path.{subst}
use Rattle.client_plan.specs.UnderWay.{IsNext, IsWalk}
use Rattle.client_plan.proofs.under_way.UnderWay.go_on.Goals as goal

pub returns-clause-next : goal.returns-clause-next
returns-clause-next c = λ r p roots view same trees walk.
    let on = c.in_ok-next.ensures r p roots view same trees walk in
    (subst (IsNext r p) (sym c.put.ensures) on.0, subst (λ next. IsWalk r p next c.next_after.new.walk) (sym c.put.ensures) on.1)
