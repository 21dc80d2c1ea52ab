use Rattle.journal_laws.proofs.EvaluationsTold.{runs_run}
use Rattle.journal_laws.proofs.values.runs_are_of_the_handlers_code.Goals as goal

pub returns : goal.returns
returns c = runs_run
