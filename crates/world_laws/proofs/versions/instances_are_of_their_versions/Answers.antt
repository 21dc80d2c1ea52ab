use Rattle.world_laws.proofs.VersionTexts.{of_page_run, served_same_run}
use Rattle.world_laws.proofs.versions.instances_are_of_their_versions.Goals as goal

pub returns-clause-page : goal.returns-clause-page
returns-clause-page c = of_page_run

pub returns-clause-served : goal.returns-clause-served
returns-clause-served c = served_same_run
