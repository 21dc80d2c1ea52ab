use Rattle.module_semantics.proofs.Keeping.{run_all-append, items_run-append}
use Rattle.module_semantics.proofs.evaluation_laws.a_fault_ends_all.Goals as goal

pub returns-clause-statements : goal.returns-clause-statements
returns-clause-statements c = run_all-append

pub returns-clause-items : goal.returns-clause-items
returns-clause-items c = items_run-append
