use Rattle.core_model.proofs.Planning.{at_new}
use Rattle.core_model.proofs.laws.new_view_is_by_name.Goals as goal

pub returns : goal.returns
returns c = at_new
