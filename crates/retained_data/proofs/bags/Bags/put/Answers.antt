use Rattle.std.proofs.Common.{Some}
use Rattle.retained_data.proofs.ByName.{changed}
use Rattle.retained_data.proofs.bags.Bags.put.Goals as goal

-- this bag is kept for the name
pub returns-clause-ok : goal.returns-clause-ok
returns-clause-ok c = rw (← c.self.view_is) (changed c.args.name (Some c.args.bag) c.self.inside.bags c.insert.new.self c.in_ok-insert.ensures.updates)
