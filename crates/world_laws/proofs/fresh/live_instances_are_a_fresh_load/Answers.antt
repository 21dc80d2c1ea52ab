use Rattle.world_laws.proofs.FreshInstances.{instances_run}
use Rattle.world_laws.proofs.fresh.live_instances_are_a_fresh_load.Goals as goal

pub returns : goal.returns
returns c = instances_run
