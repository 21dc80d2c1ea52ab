use Rattle.journal_laws.proofs.CountsUsed.{are_registered, are_told}
use Rattle.journal_laws.proofs.handlers.handlers_are_told.Goals as goal

pub returns-clause-registered : goal.returns-clause-registered
returns-clause-registered c = are_registered

pub returns-clause-ends : goal.returns-clause-ends
returns-clause-ends c = are_told
