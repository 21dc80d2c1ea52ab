use Rattle.core_model.proofs.Views.{dropped_closed}
use Rattle.core_model.proofs.laws.dropped_is_closed.Goals as goal

pub returns : goal.returns
returns c = dropped_closed
