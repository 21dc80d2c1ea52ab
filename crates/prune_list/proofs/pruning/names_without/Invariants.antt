use Rattle.std.proofs.Common.{◌≡◌, ◌++◌, drop}
use Rattle.std.specs.Prelude.{filter, not}
use Rattle.core_model.specs.Names.{has}
use Rattle.prune_list.proofs.pruning.names_without.Given as goal

-- what is left over so far, and of the names that are to come, is all
abbrev pub invariant-loop-name : goal.invariant-loop-name
invariant-loop-name l = l.left.items ++ filter (λ n. not (has l.known n)) (drop l.name-index l.names) ≡ filter (λ n. not (has l.known n)) l.names
