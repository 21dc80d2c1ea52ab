use Rattle.std.proofs.Common.{◌∙◌}
use Rattle.std.proofs.Math.Path.{subst}
use Rattle.client_plan.specs.Renewing.{IsMade}
use Rattle.client_plan.proofs.Readied.{all_ready}
use Rattle.client_plan.proofs.planning.ready.Goals as goal

pub returns : goal.returns
returns c = λ r p v same trees order none.
    all_ready r p c.args.plan.now c.args.view.now v same _ c.args.order.now none order c.in_ok-names.ensures
    (λ n. c.in_ok-link.ensures r p v same trees (c.deref.ensures.value ∙ n))
    (subst (λ names. IsMade c.args.plan.now c.args.view.now names c.args.order.now c.in_ok-modules.modules) c.deref-2.ensures.value c.in_ok-modules.ensures)
    (λ h. c.are_no_more-whole.ensures h)
