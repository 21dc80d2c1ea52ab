use Rattle.core_model.proofs.Membering.{missing_is, missing_rise}
use Rattle.core_model.proofs.laws.missing_is_computed.Goals as goal

pub returns-clause-members : goal.returns-clause-members
returns-clause-members c = missing_is

pub returns-clause-order : goal.returns-clause-order
returns-clause-order c = missing_rise
