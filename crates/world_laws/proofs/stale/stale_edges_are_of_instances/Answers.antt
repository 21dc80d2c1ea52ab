use Rattle.world_laws.proofs.FreshInstances.{stale_run}
use Rattle.world_laws.proofs.stale.stale_edges_are_of_instances.Goals as goal

pub returns : goal.returns
returns c = stale_run
