use Rattle.journal_laws.proofs.CountsSteps.{are_fated}
use Rattle.journal_laws.proofs.handlers.fates_are_told.Goals as goal

pub returns : goal.returns
returns c = are_fated
