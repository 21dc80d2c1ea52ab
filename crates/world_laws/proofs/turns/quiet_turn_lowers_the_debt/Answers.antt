use Rattle.world_laws.proofs.TurnsLowering.{quiet_lowers}
use Rattle.world_laws.proofs.turns.quiet_turn_lowers_the_debt.Goals as goal

pub returns : goal.returns
returns c = quiet_lowers
