use Rattle.std.proofs.Common.{◌-◌, ◌++◌, length}
use Rattle.propagate.proofs.Trailing.{Searching}
use Rattle.propagate.proofs.trails.least_path.Given as goal

abbrev pub invariant-loop-at : goal.invariant-loop-at
invariant-loop-at g l = Searching (g.G.Edges.edge l.graph) l.starts (g.G.Edges.names l.graph) (g.B.Ends.bad l.ends) l.trails.met l.trails.from.items l.at

-- the starts and the names that edges lead to are the most that can be met
abbrev pub decreases-loop-at : goal.decreases-loop-at
decreases-loop-at g l = length (l.starts ++ g.G.Edges.names l.graph) - l.at
