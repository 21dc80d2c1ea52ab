use Rattle.world_laws.proofs.Following.{made_run}
use Rattle.world_laws.proofs.stops.clients_follow_their_past.Goals as goal

pub returns : goal.returns
returns c = made_run
