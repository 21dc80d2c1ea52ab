use Rattle.std.proofs.Common.{◌≡◌, drop}
use Rattle.page_plan.specs.Renewals.{first_unlike}
use Rattle.page_plan.proofs.renewal.first_unlike.Given as goal

-- the first of those left is the first of all
abbrev pub invariant-loop-row : goal.invariant-loop-row
invariant-loop-row l = first_unlike l.view (drop l.row-index l.rows) ≡ first_unlike l.view l.rows
