use Rattle.world_laws.proofs.Unlinked.{unlinked_run}
use Rattle.world_laws.proofs.fresh.unlinked_imports_are_stale.Goals as goal

pub returns : goal.returns
returns c = unlinked_run
