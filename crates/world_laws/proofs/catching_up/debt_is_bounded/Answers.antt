use Rattle.world_laws.proofs.CatchingUp.{debt_bound}
use Rattle.world_laws.proofs.catching_up.debt_is_bounded.Goals as goal

pub returns : goal.returns
returns c = debt_bound
