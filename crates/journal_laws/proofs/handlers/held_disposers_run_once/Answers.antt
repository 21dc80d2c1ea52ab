use Rattle.journal_laws.proofs.CountsOnce.{are_disposed_once}
use Rattle.journal_laws.proofs.handlers.held_disposers_run_once.Goals as goal

pub returns : goal.returns
returns c = are_disposed_once
