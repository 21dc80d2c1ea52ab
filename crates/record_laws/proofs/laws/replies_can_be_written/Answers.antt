use Rattle.record_laws.proofs.Ranges.{tellable_says}
use Rattle.record_laws.proofs.laws.replies_can_be_written.Goals as goal

pub returns : goal.returns
returns c = tellable_says
