use Rattle.module_language.proofs.Binding.{module_texts_bind}
use Rattle.module_language.specs.ModuleLanguage.{module_language}
use Rattle.world_laws.proofs.TurnsEnding.{at_rest}
use Rattle.world_laws.proofs.modules.held_module_client_has_no_whole_load.Goals as goal

pub returns : goal.returns
returns f roots shelves past i c r went is_open e = (at_rest module_language roots shelves past i c r went is_open e).held module_texts_bind
