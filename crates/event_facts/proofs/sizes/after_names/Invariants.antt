use Rattle.std.proofs.Common.{◌≡◌, ◌+◌, take, length}
use Rattle.std.specs.List.{sum_by}
use Rattle.event_facts.proofs.sizes.after_names.Given as goal

-- what is left after the names so far
abbrev pub invariant-loop-name : goal.invariant-loop-name
invariant-loop-name l = l.rest + sum_by length (take l.name-index l.names) ≡ l.left
