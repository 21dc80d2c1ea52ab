use Rattle.module_graph.proofs.Marking.{gone_indexed}
use Rattle.module_graph.proofs.view.View.drop_names.Goals as goal

pub invariant_of-self : goal.invariant_of-self
invariant_of-self c =
    let was = c.self.inside.indexes in
    let now = c.take_out.new.indexes in
    gone_indexed c.args.names.now c.self.inside.rows.entries c.drop_rows.new.rows.entries was.importers.sets.entries was.acceptors.sets.entries now.importers.sets.entries now.acceptors.sets.entries
    c.drop_rows.ensures.view c.drop_rows.ensures.staying c.take_out.ensures.importers c.take_out.ensures.acceptors c.self.invariant
