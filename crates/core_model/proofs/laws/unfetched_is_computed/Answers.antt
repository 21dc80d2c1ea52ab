use Rattle.core_model.proofs.Membering.{unfetched_is, unfetched_rise}
use Rattle.core_model.proofs.laws.unfetched_is_computed.Goals as goal

pub returns-clause-members : goal.returns-clause-members
returns-clause-members c = unfetched_is

pub returns-clause-order : goal.returns-clause-order
returns-clause-order c = unfetched_rise
