use Rattle.module_graph.proofs.Marking.{none_indexed}
use Rattle.module_graph.proofs.view.View.new.Goals as goal

pub invariant_of-result : goal.invariant_of-result
invariant_of-result c = none_indexed c.new.result.entries c.new-2.result.importers.sets.entries c.new-2.result.acceptors.sets.entries c.new.ensures.empty c.new-2.ensures.importers c.new-2.ensures.acceptors
