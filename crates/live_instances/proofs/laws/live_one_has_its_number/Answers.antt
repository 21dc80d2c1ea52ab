use Rattle.live_instances.proofs.Order.{live_numbered}
use Rattle.live_instances.proofs.laws.live_one_has_its_number.Goals as goal

pub returns : goal.returns
returns c n is i o e = live_numbered n is o.numbers i e
