use Rattle.module_language.specs.ModuleLanguage.{module_language}
use Rattle.module_language.proofs.Binding.{module_texts_bind}
use Rattle.world_model.specs.Steps.{world_after}
use Rattle.journal_laws.proofs.FreshWorld.{live_values_are_fresh}
use Rattle.journal_laws.proofs.OfTexts.{are_live_without_bag}
use Rattle.journal_laws.proofs.texts.live_values_of_texts_are_those_of_a_fresh_load.Goals as goal

pub returns : goal.returns
returns f roots shelves past i c r went opened up unstale acyclic handlers nothing =
    live_values_are_fresh module_language roots shelves past i c r went module_texts_bind opened up unstale acyclic (are_live_without_bag (world_after module_language roots shelves past).core.sources.served r handlers) nothing
