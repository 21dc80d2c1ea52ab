use Rattle.std.proofs.Common.{take}
use Rattle.module_graph.specs.ReverseIndex.{IsWithout}
use Rattle.module_graph.proofs.view.take_out.Given as goal

-- the modules of the names so far are under none
abbrev pub invariant-loop-name : goal.invariant-loop-name
invariant-loop-name l =
    let gone = take l.name-index l.names in
    IsWithout gone l.fn.indexes.importers.sets.entries l.indexes.importers.sets.entries × IsWithout gone l.fn.indexes.acceptors.sets.entries l.indexes.acceptors.sets.entries
