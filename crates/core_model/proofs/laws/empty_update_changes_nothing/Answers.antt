use Rattle.core_model.proofs.Planning.{nothing_new}
use Rattle.core_model.proofs.laws.empty_update_changes_nothing.Goals as goal

pub returns : goal.returns
returns c = nothing_new
