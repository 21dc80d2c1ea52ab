use Rattle.core_model.proofs.LeastPaths.{one_least}
use Rattle.core_model.proofs.laws.one_least_path.Goals as goal

pub returns : goal.returns
returns c = one_least
