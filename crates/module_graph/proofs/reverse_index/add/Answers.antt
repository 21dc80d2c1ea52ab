use Rattle.std.proofs.Common.{true}
use Rattle.module_graph.proofs.Turning.{updated_has}
use Rattle.module_graph.proofs.reverse_index.add.Goals as goal

pub returns-clause-ok : goal.returns-clause-ok
returns-clause-ok c = updated_has c.args.name true c.args.set.now.keys c.insert.new.self.keys c.in_ok-insert.ensures.updates.0
