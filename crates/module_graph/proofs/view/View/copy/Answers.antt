use Rattle.std.proofs.Common.{ap, ◌∙◌}
use Rattle.module_graph.specs.Rows.{view_of}
use Rattle.module_graph.proofs.Marking.{copied_indexed}
use Rattle.module_graph.proofs.view.View.copy.Goals as goal

pub invariant_of-result : goal.invariant_of-result
invariant_of-result c =
    let was = c.self.inside.indexes in
    let now = c.in_ok-indexes.indexes in
    copied_indexed c.self.inside.rows.entries c.in_ok-rows.rows.entries was.importers.sets.entries was.acceptors.sets.entries now.importers.sets.entries now.acceptors.sets.entries
    c.in_ok-rows.ensures c.in_ok-indexes.ensures.importers c.in_ok-indexes.ensures.acceptors c.self.invariant

pub returns : goal.returns
returns c = ap view_of c.in_ok-rows.ensures ∙ c.self.view_is
