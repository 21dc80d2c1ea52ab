use Rattle.std.proofs.Common.{◌≡◌, ◌++◌, drop}
use Rattle.std.specs.Prelude.{filter, not}
use Rattle.core_model.specs.Names.{has}
use Rattle.fresh_loads.proofs.unlinked.without.Given as goal

-- the names so far, and those that are to come, are all
abbrev pub invariant-loop-name : goal.invariant-loop-name
invariant-loop-name l = l.left.items ++ filter (λ x. not (has l.set x)) (drop l.name-index l.names) ≡ filter (λ x. not (has l.set x)) l.names
