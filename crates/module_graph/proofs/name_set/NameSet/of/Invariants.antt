use Rattle.std.proofs.Common.{◌≡◌, take}
use Rattle.core_model.specs.Names.{Name, has}
use Rattle.module_graph.proofs.name_set.NameSet.of.Given as goal

abbrev pub invariant-loop-name : goal.invariant-loop-name
invariant-loop-name l = (n : Name) → has l.set n ≡ has (take l.name-index l.names) n
