use Rattle.std.proofs.Common.{◌≡◌, ◌++◌, ◌≤◌, drop, length}
use Rattle.std.specs.Prelude.{reverse}
use Rattle.page_plan.specs.Walking.{visits}
use Rattle.page_plan.proofs.walker.push_visits.Given as goal

abbrev pub invariant-loop-place : goal.invariant-loop-place
invariant-loop-place l = (l.place ≤ length l.names) × (reverse l.tasks.items ≡ visits (drop l.place l.names) ++ reverse l.fn.tasks.items)

abbrev pub decreases-loop-place : goal.decreases-loop-place
decreases-loop-place l = l.place
