use Rattle.std.proofs.Common.{ap, ◌∙◌}
use Rattle.core_model.specs.Names.{sorted}
use Rattle.page_plan.proofs.Same.{left_met}
use Rattle.page_plan.proofs.view.made_view.Goals as goal

pub returns : goal.returns
returns c = λ roots is. c.in_ok-made.ensures roots (c.deref.ensures.value ∙ c.in_ok-met.ensures ∙ ap sorted (c.in_ok-names.ensures ∙ is) ∙ left_met roots c.args.plan.now c.args.view.now)
