use Rattle.std.proofs.Common.{◌≡◌, ◌+◌, take, length}
use Rattle.std.specs.List.{sum_by}
use Rattle.event_facts.proofs.sizes.after_rows.Given as goal

-- what is left after the names so far
abbrev pub invariant-loop-row : goal.invariant-loop-row
invariant-loop-row l = l.rest + sum_by (λ row. length row.0) (take l.row-index l.rows) ≡ l.left
