use Rattle.std.proofs.Common.{take}
use Rattle.module_graph.specs.Paths.{Adds}
use Rattle.module_graph.proofs.known.Known.add_all.Given as goal

abbrev pub invariant-loop-name : goal.invariant-loop-name
invariant-loop-name l = Adds l.fn.self (take l.name-index l.names) l.self
