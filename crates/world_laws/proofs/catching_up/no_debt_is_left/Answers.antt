use Rattle.world_laws.proofs.CatchingUp.{paid_is}
use Rattle.world_laws.proofs.catching_up.no_debt_is_left.Goals as goal

pub returns : goal.returns
returns c = paid_is
