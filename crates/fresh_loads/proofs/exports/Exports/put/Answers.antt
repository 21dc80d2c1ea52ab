use Rattle.std.specs.Prelude.{Some}
use Rattle.fresh_loads.proofs.Linking.{changed}
use Rattle.fresh_loads.proofs.exports.Exports.put.Goals as goal

pub returns : goal.returns
returns c = rw (← c.self.view_is) (changed c.args.name (Some c.args.set) c.self.inside.sets.entries c.insert.new.self.entries c.in_ok-insert.ensures.updates.0)
