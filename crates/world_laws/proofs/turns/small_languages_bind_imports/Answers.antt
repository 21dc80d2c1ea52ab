use Rattle.world_laws.proofs.TurnsBinding.{binds_small}
use Rattle.world_laws.proofs.turns.small_languages_bind_imports.Goals as goal

pub returns : goal.returns
returns f = binds_small
