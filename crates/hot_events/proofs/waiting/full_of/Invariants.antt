use Rattle.std.proofs.Common.{◌≡◌, ◌++◌, drop}
use Rattle.hot_events.specs.Rows.{full_in}
use Rattle.hot_events.proofs.waiting.full_of.Given as goal

-- the clients so far, and those of the rows that are left
abbrev pub invariant-loop-row : goal.invariant-loop-row
invariant-loop-row l = l.clients.items ++ full_in (drop l.row-index l.lists) ≡ full_in l.lists
