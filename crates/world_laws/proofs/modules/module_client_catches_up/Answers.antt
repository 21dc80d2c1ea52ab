use Rattle.std.proofs.Common.{arith}
use Rattle.world_model.specs.Steps.{world_after}
use Rattle.module_language.proofs.Binding.{module_texts_bind}
use Rattle.module_language.specs.ModuleLanguage.{module_language}
use Rattle.world_laws.proofs.CatchingUp.{debt_bound}
use Rattle.world_laws.proofs.TurnsLowering.{caught_within}
use Rattle.world_laws.proofs.Looking.{up_among}
use Rattle.world_laws.proofs.modules.module_client_catches_up.Goals as goal

pub returns-clause-debt : goal.returns-clause-debt
returns-clause-debt f roots shelves past i client r went settled is_open quiet =
    up_among module_language roots shelves i _ past (caught_within module_language roots shelves i module_texts_bind _ past client r went settled is_open (omega arith) quiet)

pub returns-clause-bound : goal.returns-clause-bound
returns-clause-bound f roots shelves past i client r went settled is_open quiet =
    up_among module_language roots shelves i _ past (caught_within module_language roots shelves i module_texts_bind _ past client r went settled is_open (debt_bound (world_after module_language roots shelves past).core.sources client r) quiet)
