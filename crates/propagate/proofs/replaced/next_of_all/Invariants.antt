use Rattle.std.proofs.Common.{◌≡◌, take}
use Rattle.core_model.specs.Names.{Name, has}
use Rattle.core_model.specs.Rounds.{touched}
use Rattle.propagate.proofs.replaced.next_of_all.Given as goal

abbrev pub invariant-loop-name : goal.invariant-loop-name
invariant-loop-name g l = (m : Name) → has l.all.items m ≡ touched (g.G.Edges.edge l.graph) (take l.name-index l.names) m
