use Rattle.journal_laws.proofs.HandlerEnds.{all_end}
use Rattle.journal_laws.proofs.handlers.handlers_end_by_fate.Goals as goal

pub returns : goal.returns
returns c = all_end
