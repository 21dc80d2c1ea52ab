use Rattle.world_laws.proofs.Making.{linked_run}
use Rattle.world_laws.proofs.instances.links_are_to_their_imports.Goals as goal

pub returns : goal.returns
returns c = linked_run
