use Rattle.world_laws.proofs.Exporting.{exported_run}
use Rattle.world_laws.proofs.instances.links_export_what_is_imported.Goals as goal

pub returns : goal.returns
returns c = exported_run
