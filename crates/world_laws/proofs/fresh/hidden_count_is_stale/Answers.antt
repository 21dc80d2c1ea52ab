use Rattle.std.proofs.Common.{refl}
use Rattle.world_laws.proofs.fresh.hidden_count_is_stale.Goals as goal

pub returns-clause-client : goal.returns-clause-client
returns-clause-client c = refl

pub returns-clause-load : goal.returns-clause-load
returns-clause-load c = refl
