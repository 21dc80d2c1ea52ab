use Rattle.core_model.proofs.LeastPaths.{least_path_is}
use Rattle.core_model.proofs.laws.least_path_is_computed.Goals as goal

pub returns-clause-some : goal.returns-clause-some
returns-clause-some c edge names starts bad over = (least_path_is edge names starts bad over).0

pub returns-clause-none : goal.returns-clause-none
returns-clause-none c edge names starts bad over = (least_path_is edge names starts bad over).1
