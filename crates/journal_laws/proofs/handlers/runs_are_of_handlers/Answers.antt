use Rattle.journal_laws.proofs.CountsUsed.{are_runs_of_handlers}
use Rattle.journal_laws.proofs.handlers.runs_are_of_handlers.Goals as goal

pub returns : goal.returns
returns c = are_runs_of_handlers
