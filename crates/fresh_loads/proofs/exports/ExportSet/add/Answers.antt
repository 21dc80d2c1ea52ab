use Rattle.std.proofs.Common.{ap, ◌∙◌}
use Rattle.core_model.specs.Names.{has}
use Rattle.module_graph.proofs.Sets.{insert_has}
use Rattle.fresh_loads.proofs.exports.ExportSet.add.Goals as goal

pub returns : goal.returns
returns c = rw (← c.self.view_is) (λ m. ap (λ l. has l m) c.in_ok-insert.ensures.keys ∙ insert_has c.self.inside.names.keys c.args.name m)
