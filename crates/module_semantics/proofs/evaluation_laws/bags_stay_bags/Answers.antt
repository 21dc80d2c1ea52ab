use Rattle.module_semantics.proofs.Growing.{module_bag, body_bag, host_bag}
use Rattle.module_semantics.proofs.evaluation_laws.bags_stay_bags.Goals as goal

pub returns-clause-modules : goal.returns-clause-modules
returns-clause-modules c = module_bag

pub returns-clause-bodies : goal.returns-clause-bodies
returns-clause-bodies c = body_bag

pub returns-clause-hosts : goal.returns-clause-hosts
returns-clause-hosts c = host_bag
