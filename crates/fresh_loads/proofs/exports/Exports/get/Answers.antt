use Rattle.std.proofs.Common.{sym, ◌∙◌}
use Rattle.fresh_loads.proofs.Linking.{found}
use Rattle.fresh_loads.proofs.exports.Exports.get.Goals as goal

pub returns : goal.returns
returns c = rw (← c.self.view_is) (c.get.ensures.value ∙ sym (found c.self.inside.sets.entries c.args.name.now))
