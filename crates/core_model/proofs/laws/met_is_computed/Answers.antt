use Rattle.core_model.proofs.Planning.{met_is}
use Rattle.core_model.proofs.laws.met_is_computed.Goals as goal

pub returns : goal.returns
returns c = met_is
