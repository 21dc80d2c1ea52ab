use Rattle.core_model.proofs.LookingBack.{counted_is, current_is, served_is}
use Rattle.core_model.proofs.laws.sources_look_back.Goals as goal

pub returns-clause-counted : goal.returns-clause-counted
returns-clause-counted c = counted_is

pub returns-clause-current : goal.returns-clause-current
returns-clause-current c = current_is

pub returns-clause-served : goal.returns-clause-served
returns-clause-served c = served_is
