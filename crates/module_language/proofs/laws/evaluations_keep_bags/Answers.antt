use Rattle.module_language.proofs.Leaving.{evaluated_bag, hosted_bag, ran_bag}
use Rattle.module_language.proofs.laws.evaluations_keep_bags.Goals as goal

pub returns-clause-evaluated : goal.returns-clause-evaluated
returns-clause-evaluated c = evaluated_bag

pub returns-clause-ran : goal.returns-clause-ran
returns-clause-ran c = ran_bag

pub returns-clause-hosted : goal.returns-clause-hosted
returns-clause-hosted c = hosted_bag
