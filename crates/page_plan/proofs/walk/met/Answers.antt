use Rattle.std.proofs.Common.{◌≡◌, ap, ◌∙◌}
use Rattle.std.specs.Prelude.{IfNone}
use Rattle.std.proofs.Math.Path.{subst}
use Rattle.core_model.specs.Names.{sorted}
use Rattle.client_model.specs.Order.{evaluation_order}
use Rattle.page_plan.proofs.Same.{left_met}
use Rattle.page_plan.proofs.walk.met.Goals as goal

pub returns-in_ok-met-in-None : goal.returns-in_ok-met-in-None
returns-in_ok-met-in-None c =
    c.in_ok-met-in-None.ensures
    ∙ ap sorted (c.into_left.ensures ∙ subst (λ o. IfNone o (c.go_on.new.self.left ≡ evaluation_order c.args.roots.now c.args.plan.now c.args.view.now)) c.in-None.is
    (c.in_ok-go_on.ensures.order c.args.roots.now (c.in_ok-walker.ensures c.args.plan.now c.args.view.now)))
    ∙ left_met c.args.roots.now c.args.plan.now c.args.view.now
