use Rattle.world_laws.proofs.Making.{numbered_run, counted_run}
use Rattle.world_laws.proofs.instances.instances_are_numbered.Goals as goal

pub returns-clause-places : goal.returns-clause-places
returns-clause-places c = numbered_run

pub returns-clause-counted : goal.returns-clause-counted
returns-clause-counted c = counted_run
