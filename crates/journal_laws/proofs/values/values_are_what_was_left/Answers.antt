use Rattle.journal_laws.proofs.ValuesLeft.{values_run}
use Rattle.journal_laws.proofs.values.values_are_what_was_left.Goals as goal

pub returns : goal.returns
returns c = values_run
