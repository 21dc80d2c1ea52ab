use Rattle.core_model.proofs.Replaying.{one_more}
use Rattle.core_model.proofs.laws.replay_of_one_more_is_a_step.Goals as goal

pub returns : goal.returns
returns c = one_more
