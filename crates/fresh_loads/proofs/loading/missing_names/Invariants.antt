use Rattle.std.proofs.Common.{◌≡◌, ◌++◌, drop}
use Rattle.std.specs.Prelude.{filter, is_some, not}
use Rattle.core_model.specs.Names.{at}
use Rattle.fresh_loads.proofs.loading.missing_names.Given as goal

-- what is missing so far, and of the names that are to come, is all
abbrev pub invariant-loop-name : goal.invariant-loop-name
invariant-loop-name l = l.missing.items ++ filter (λ n. not (is_some (at l.versions.served n))) (drop l.name-index l.names) ≡ filter (λ n. not (is_some (at l.versions.served n))) l.names
