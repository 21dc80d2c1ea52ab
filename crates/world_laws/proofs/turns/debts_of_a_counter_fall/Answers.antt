use Rattle.std.proofs.Common.{refl}
use Rattle.world_laws.proofs.turns.debts_of_a_counter_fall.Goals as goal

pub returns-clause-load : goal.returns-clause-load
returns-clause-load f = refl

pub returns-clause-update : goal.returns-clause-update
returns-clause-update f = refl
