use Rattle.journal_laws.proofs.CountsOnce.{are_pruned_once}
use Rattle.journal_laws.proofs.handlers.prune_handlers_run_at_a_prune.Goals as goal

pub returns : goal.returns
returns c = are_pruned_once
