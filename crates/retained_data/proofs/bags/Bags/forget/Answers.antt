use Rattle.std.proofs.Common.{None}
use Rattle.retained_data.proofs.ByName.{changed}
use Rattle.retained_data.proofs.bags.Bags.forget.Goals as goal

-- nothing is kept for the name
pub returns : goal.returns
returns c = rw (← c.self.view_is) (changed c.args.name.now None c.self.inside.bags c.remove.new.self c.remove.ensures.updates)
