use Rattle.journal_laws.specs.Data.{EvaluationsStartRight, RunsStartRight}
use Rattle.journal_laws.proofs.DataStarting.{evaluations_start, runs_start}
use Rattle.journal_laws.proofs.InWorld.{of_each_client}
use Rattle.journal_laws.proofs.world.each_started_with_what_was_left.Goals as goal

pub returns-clause-evaluations : goal.returns-clause-evaluations
returns-clause-evaluations c language roots = of_each_client language roots EvaluationsStartRight (evaluations_start language)

pub returns-clause-runs : goal.returns-clause-runs
returns-clause-runs c language roots = of_each_client language roots RunsStartRight (runs_start language)
