use Rattle.std.proofs.Common.{◌≡◌, ◌++◌, drop, map}
use Rattle.fresh_loads.proofs.unlinked.add_names.Given as goal

-- what was found so far, and the names that are to come, are all
abbrev pub invariant-loop-x : goal.invariant-loop-x
invariant-loop-x l = l.found.items ++ map (λ x. (l.name, l.dependency, x)) (drop l.x-index l.names) ≡ l.initial.found.items ++ map (λ x. (l.name, l.dependency, x)) l.names
