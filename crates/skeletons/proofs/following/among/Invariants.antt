use Rattle.std.proofs.Common.{◌≡◌, ◌++◌, drop}
use Rattle.std.specs.Prelude.{filter}
use Rattle.module_semantics.specs.Entries.{has_name}
use Rattle.skeletons.proofs.following.among.Given as goal

-- the names so far, and those of what is left, are all
abbrev pub invariant-loop-name : goal.invariant-loop-name
invariant-loop-name l = l.found.items ++ filter (λ n. has_name n l.others) (drop l.name-index l.names) ≡ filter (λ n. has_name n l.others) l.names
