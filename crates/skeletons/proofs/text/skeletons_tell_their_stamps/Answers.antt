use Rattle.skeletons.proofs.Outcomes.{stamps}
use Rattle.skeletons.proofs.text.skeletons_tell_their_stamps.Goals as goal

pub returns : goal.returns
returns c = stamps
