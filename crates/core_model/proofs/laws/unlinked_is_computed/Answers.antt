use Rattle.core_model.proofs.Membering.{unlinked_is, unlinked_rise}
use Rattle.core_model.proofs.laws.unlinked_is_computed.Goals as goal

pub returns-clause-members : goal.returns-clause-members
returns-clause-members c = unlinked_is

pub returns-clause-order : goal.returns-clause-order
returns-clause-order c = unlinked_rise
