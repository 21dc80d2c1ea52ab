use Rattle.module_language.proofs.Keeping.{bags_are_bags}
use Rattle.module_language.proofs.laws.clients_keep_bags.Goals as goal

pub returns : goal.returns
returns c = bags_are_bags
