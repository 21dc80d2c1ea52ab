use Rattle.journal_laws.proofs.DataStarting.{evaluations_start, runs_start}
use Rattle.journal_laws.proofs.data.each_starts_with_what_was_left.Goals as goal

pub returns-clause-evaluations : goal.returns-clause-evaluations
returns-clause-evaluations c language = evaluations_start language

pub returns-clause-runs : goal.returns-clause-runs
returns-clause-runs c language = runs_start language
