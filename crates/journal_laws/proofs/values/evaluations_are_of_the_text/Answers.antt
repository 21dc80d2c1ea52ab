use Rattle.journal_laws.proofs.ValuesLeft.{once_run}
use Rattle.journal_laws.proofs.EvaluationsTold.{evaluations_run, unrun_run}
use Rattle.journal_laws.proofs.values.evaluations_are_of_the_text.Goals as goal

pub returns-clause-evaluations : goal.returns-clause-evaluations
returns-clause-evaluations c = evaluations_run

pub returns-clause-unrun : goal.returns-clause-unrun
returns-clause-unrun c = unrun_run

pub returns-clause-once : goal.returns-clause-once
returns-clause-once c = once_run
