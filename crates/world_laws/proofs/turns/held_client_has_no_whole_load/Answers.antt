use Rattle.world_laws.proofs.TurnsEnding.{at_rest}
use Rattle.world_laws.proofs.turns.held_client_has_no_whole_load.Goals as goal

pub returns : goal.returns
returns f language roots binds shelves past i c r went is_open e = (at_rest language roots shelves past i c r went is_open e).held binds
