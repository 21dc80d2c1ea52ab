use Rattle.world_laws.proofs.CatchingUp.{test_is}
use Rattle.world_laws.proofs.catching_up.caught_up_is_tested.Goals as goal

pub returns : goal.returns
returns c = test_is
