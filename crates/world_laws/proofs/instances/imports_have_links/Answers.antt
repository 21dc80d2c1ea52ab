use Rattle.world_laws.proofs.Linked.{linked_whole}
use Rattle.world_laws.proofs.instances.imports_have_links.Goals as goal

pub returns : goal.returns
returns c = linked_whole
