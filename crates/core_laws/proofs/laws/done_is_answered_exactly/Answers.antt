use Rattle.core_laws.proofs.Applying.{done_exactly}
use Rattle.core_laws.proofs.Tables.{table_exactly}
use Rattle.core_laws.proofs.laws.done_is_answered_exactly.Goals as goal

pub returns-clause-versions : goal.returns-clause-versions
returns-clause-versions c = done_exactly

pub returns-clause-table : goal.returns-clause-table
returns-clause-table c = table_exactly
