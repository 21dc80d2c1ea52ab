use Rattle.world_laws.proofs.Looking.{look_same}
use Rattle.world_laws.proofs.turns.looks_change_nothing.Goals as goal

pub returns : goal.returns
returns c = look_same
