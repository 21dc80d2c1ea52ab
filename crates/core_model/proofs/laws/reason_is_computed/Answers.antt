use Rattle.core_model.proofs.Spreading.{reason_is}
use Rattle.core_model.proofs.laws.reason_is_computed.Goals as goal

pub returns-clause-some : goal.returns-clause-some
returns-clause-some c view roots changed forced = (reason_is view roots changed forced).0

pub returns-clause-none : goal.returns-clause-none
returns-clause-none c view roots changed forced = (reason_is view roots changed forced).1
