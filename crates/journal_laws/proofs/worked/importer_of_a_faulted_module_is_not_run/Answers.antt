use Rattle.std.proofs.Common.{refl}
use Rattle.journal_laws.proofs.worked.importer_of_a_faulted_module_is_not_run.Goals as goal

pub returns-clause-statuses : goal.returns-clause-statuses
returns-clause-statuses c = refl

pub returns-clause-evaluations : goal.returns-clause-evaluations
returns-clause-evaluations c = refl

pub returns-clause-values : goal.returns-clause-values
returns-clause-values c = refl
