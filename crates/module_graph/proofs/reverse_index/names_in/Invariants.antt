use Rattle.std.proofs.Common.{◌≡◌, ◌++◌}
use Rattle.module_graph.proofs.reverse_index.names_in.Given as goal

-- what is copied, and what is left, are all
abbrev pub invariant-loop-name : goal.invariant-loop-name
invariant-loop-name l = l.names.items ++ l.name-iterator ≡ l.set.keys
