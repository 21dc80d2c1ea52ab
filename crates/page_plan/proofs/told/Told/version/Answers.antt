use Rattle.std.proofs.Common.{◌∙◌, ap}
use Rattle.core_model.specs.Asking.{number_or_zero}
use Rattle.page_plan.proofs.Numbering.{found}
use Rattle.page_plan.proofs.told.Told.version.Goals as goal

pub returns-in-Some : goal.returns-in-Some
returns-in-Some c = rw (← c.self.view_is) (ap number_or_zero (c.in-Some.ensures.value ∙ found c.args.name.now c.self.inside.versions.entries))

pub returns-in-None : goal.returns-in-None
returns-in-None c = rw (← c.self.view_is) (ap number_or_zero (c.in-None.ensures.value ∙ found c.args.name.now c.self.inside.versions.entries))
