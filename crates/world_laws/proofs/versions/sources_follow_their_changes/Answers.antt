use Rattle.world_laws.proofs.Changes.{sources_are, served_written_in}
use Rattle.world_laws.proofs.versions.sources_follow_their_changes.Goals as goal

pub returns-clause-sources : goal.returns-clause-sources
returns-clause-sources c = sources_are

pub returns-clause-served : goal.returns-clause-served
returns-clause-served c = served_written_in
