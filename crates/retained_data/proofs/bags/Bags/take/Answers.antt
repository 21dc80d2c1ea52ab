use Rattle.std.proofs.Common.{◌∙◌, None, ap}
use Rattle.retained_data.specs.Bags.{bag_or_empty}
use Rattle.retained_data.proofs.ByName.{changed, found}
use Rattle.retained_data.proofs.bags.Bags.take.Goals as goal

-- what the map had at the name
pub returns-clause-bag : goal.returns-clause-bag
returns-clause-bag c = rw (← c.self.view_is) (c.or_empty.ensures ∙ ap bag_or_empty (c.remove-kept.ensures.value ∙ found c.args.name.now c.self.inside.bags.entries))

-- nothing is kept for the name
pub returns-clause-taken : goal.returns-clause-taken
returns-clause-taken c = rw (← c.self.view_is) (changed c.args.name.now None c.self.inside.bags c.remove-kept.new.self c.remove-kept.ensures.updates)
