use Rattle.world_laws.proofs.Following.{accepted_run}
use Rattle.world_laws.proofs.stops.stops_are_accepted.Goals as goal

pub returns : goal.returns
returns c = accepted_run
