use Rattle.std.proofs.Common.{◌∙◌}
use Rattle.page_plan.proofs.Numbering.{found}
use Rattle.page_plan.proofs.numbers.Numbers.get.Goals as goal

pub returns : goal.returns
returns c = rw (← c.self.view_is) (c.copied.ensures ∙ c.get.ensures.value ∙ found c.args.name.now c.self.inside.numbers.entries)
