use Rattle.journal_laws.proofs.LeavingOut.{same_alone}
use Rattle.journal_laws.proofs.lives.others_can_be_left_out.Goals as goal

pub returns : goal.returns
returns c = same_alone
