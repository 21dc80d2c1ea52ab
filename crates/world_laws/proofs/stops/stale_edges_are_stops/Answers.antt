use Rattle.world_laws.proofs.Following.{stops_run, listed_stops_run}
use Rattle.world_laws.proofs.stops.stale_edges_are_stops.Goals as goal

pub returns-clause-exactly : goal.returns-clause-exactly
returns-clause-exactly c = stops_run

pub returns-clause-listed : goal.returns-clause-listed
returns-clause-listed c = listed_stops_run
