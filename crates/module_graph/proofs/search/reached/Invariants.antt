use Rattle.std.proofs.Common.{◌-◌, ◌++◌, length}
use Rattle.module_graph.proofs.Searches.{Searched}
use Rattle.module_graph.proofs.search.reached.Given as goal

abbrev pub invariant-loop-at : goal.invariant-loop-at
invariant-loop-at g l = Searched (g.G.Edges.edge l.graph) l.starts (g.G.Edges.names l.graph) l.known l.at

-- the starts and the names that edges lead to are the most that can be known
abbrev pub decreases-loop-at : goal.decreases-loop-at
decreases-loop-at g l = length (l.starts ++ g.G.Edges.names l.graph) - l.at
