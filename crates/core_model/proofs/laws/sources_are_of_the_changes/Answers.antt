use Rattle.core_model.proofs.Replaying.{sources_are}
use Rattle.core_model.proofs.laws.sources_are_of_the_changes.Goals as goal

pub returns : goal.returns
returns c = sources_are
