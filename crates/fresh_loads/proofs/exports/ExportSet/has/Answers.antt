use Rattle.std.proofs.Common.{◌∙◌}
use Rattle.module_graph.proofs.Sets.{set_has}
use Rattle.fresh_loads.proofs.exports.ExportSet.has.Goals as goal

pub returns : goal.returns
returns c = rw (← c.self.view_is) (c.contains.ensures ∙ set_has c.self.inside.names.keys c.args.name.now)
