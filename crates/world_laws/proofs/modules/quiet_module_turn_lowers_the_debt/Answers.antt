use Rattle.module_language.proofs.Binding.{module_texts_bind}
use Rattle.module_language.specs.ModuleLanguage.{module_language}
use Rattle.world_laws.proofs.TurnsLowering.{quiet_lowers}
use Rattle.world_laws.proofs.modules.quiet_module_turn_lowers_the_debt.Goals as goal

pub returns : goal.returns
returns f roots shelves past i c r went settled is_open behind quiet = quiet_lowers module_language roots shelves past i c r went module_texts_bind settled is_open behind quiet
