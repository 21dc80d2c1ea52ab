use Rattle.std.proofs.Common.{◌∙◌}
use Rattle.module_graph.proofs.Sets.{set_has}
use Rattle.module_graph.proofs.reverse_index.is_in.Goals as goal

pub returns : goal.returns
returns c = c.contains.ensures ∙ set_has c.args.set.now.keys c.args.name.now
