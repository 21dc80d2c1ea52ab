use Rattle.std.proofs.Common.{arith}
use Rattle.world_model.specs.Steps.{world_after}
use Rattle.world_laws.proofs.CatchingUp.{debt_bound}
use Rattle.world_laws.proofs.TurnsLowering.{caught_within}
use Rattle.world_laws.proofs.Looking.{up_among}
use Rattle.world_laws.proofs.turns.client_catches_up_among_looks.Goals as goal

pub returns-clause-debt : goal.returns-clause-debt
returns-clause-debt f language roots shelves past i client r went binds settled is_open quiet =
    up_among language roots shelves i _ past (caught_within language roots shelves i binds _ past client r went settled is_open (omega arith) quiet)

pub returns-clause-bound : goal.returns-clause-bound
returns-clause-bound f language roots shelves past i client r went binds settled is_open quiet =
    up_among language roots shelves i _ past (caught_within language roots shelves i binds _ past client r went settled is_open (debt_bound (world_after language roots shelves past).core.sources client r) quiet)
