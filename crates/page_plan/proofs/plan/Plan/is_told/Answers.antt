use Rattle.std.proofs.Common.{ap, sym, ◌∙◌}
use Rattle.core_model.specs.Names.{has}
use Rattle.page_plan.proofs.Renewals.{told_renewed}
use Rattle.page_plan.proofs.plan.Plan.is_told.Goals as goal

pub returns : goal.returns
returns c = λ t. sym c.as_slice-rows.ensures.value
    ∙ told_renewed c.args.self.now c.args.view.now c.as_slice-rows.result.now c.requires.growing c.requires.rising (sym c.are_fitting.ensures ∙ c.if-not-are_fitting.false)
    (λ n h. c.are_told.ensures t n (ap (λ l. has l n) c.requires.names ∙ h))
