use Rattle.std.proofs.Common.{◌≡◌, ◌++◌, drop}
use Rattle.std.specs.Prelude.{filter, not}
use Rattle.core_model.specs.View.{is_in}
use Rattle.client_records.proofs.apply.push_others.Given as goal

-- the names so far, and of those that are to come, are all
abbrev pub invariant-loop-name : goal.invariant-loop-name
invariant-loop-name l = l.names.items ++ filter (λ n. not (is_in l.page n)) (drop l.name-index l.more) ≡ l.fn.names.items ++ filter (λ n. not (is_in l.page n)) l.more
