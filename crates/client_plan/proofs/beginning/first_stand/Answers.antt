use Rattle.std.proofs.Common.{ap, sym, ◌∙◌}
use Rattle.std.specs.Prelude.{IfSome, Some}
use Rattle.std.proofs.Math.Path.{subst}
use Rattle.client_plan.specs.Whole.{IsLone}
use Rattle.client_plan.proofs.Alone.{lone_needs}
use Rattle.client_plan.proofs.beginning.first_stand.Goals as goal

pub returns-in_ok-copy_name-in-Some : goal.returns-in_ok-copy_name-in-Some
returns-in_ok-copy_name-in-Some c = λ r p roots view same trees alone.
    let lone : IsLone r.roots p r.page.view c.in-Some.name.now = subst (λ o. IfSome o (λ n. IsLone r.roots p r.page.view n.now)) c.in-Some.is alone in
    (lone_needs r p c.in-Some.name.now lone ∙ ap Some (sym c.in_ok-copy_name-in-Some.ensures), subst (IsLone r.roots p r.page.view) (sym c.in_ok-copy_name-in-Some.ensures) lone)

pub returns-in-None : goal.returns-in-None
returns-in-None c = λ r p roots view same trees alone. c.walked.ensures r p roots view same trees
