use Rattle.core_model.proofs.Reaching.{rounds_are}
use Rattle.core_model.proofs.laws.rounds_reach.Goals as goal

pub returns : goal.returns
returns c = rounds_are
