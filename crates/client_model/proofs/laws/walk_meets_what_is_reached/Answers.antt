use Rattle.core_model.proofs.Naming.{same_test}
use Rattle.core_model.proofs.Planning.{met_is}
use Rattle.client_model.proofs.Walking.{walk_is}
use Rattle.client_model.proofs.laws.walk_meets_what_is_reached.Goals as goal

pub returns-clause-reached : goal.returns-clause-reached
returns-clause-reached c = walk_is

pub returns-clause-core : goal.returns-clause-core
returns-clause-core c roots p view m = same_test _ _ (λ h. (met_is roots p view m).1 ((walk_is roots p view m).0 h)) (λ h. (walk_is roots p view m).1 ((met_is roots p view m).0 h))
