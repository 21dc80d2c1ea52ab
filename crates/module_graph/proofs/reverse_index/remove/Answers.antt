use Rattle.std.proofs.Common.{false}
use Rattle.module_graph.proofs.Turning.{updated_has}
use Rattle.module_graph.proofs.reverse_index.remove.Goals as goal

pub returns : goal.returns
returns c = updated_has c.args.name.now false c.args.set.now.keys c.remove.new.self.keys c.remove.ensures.updates.0
