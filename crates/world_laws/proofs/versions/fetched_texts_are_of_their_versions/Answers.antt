use Rattle.world_laws.proofs.VersionTexts.{of_plan_run}
use Rattle.world_laws.proofs.versions.fetched_texts_are_of_their_versions.Goals as goal

pub returns : goal.returns
returns c = of_plan_run
