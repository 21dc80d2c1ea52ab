use Rattle.live_instances.proofs.Order.{born_order}
use Rattle.live_instances.proofs.laws.new_one_stands_first.Goals as goal

pub returns : goal.returns
returns c = born_order
