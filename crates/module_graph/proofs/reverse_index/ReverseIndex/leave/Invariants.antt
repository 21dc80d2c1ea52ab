use Rattle.std.proofs.Common.{take}
use Rattle.module_graph.specs.ReverseIndex.{Leaves}
use Rattle.module_graph.proofs.reverse_index.ReverseIndex.leave.Given as goal

abbrev pub invariant-loop-name : goal.invariant-loop-name
invariant-loop-name l = Leaves l.lister (take l.name-index l.names) l.kept l.fn.self.sets.entries l.self.sets.entries
