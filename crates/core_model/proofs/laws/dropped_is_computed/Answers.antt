use Rattle.core_model.proofs.Views.{dropped_are}
use Rattle.core_model.proofs.laws.dropped_is_computed.Goals as goal

pub returns : goal.returns
returns c = dropped_are
