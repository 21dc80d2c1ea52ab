use Rattle.std.proofs.Common.{◌≤◌, ◌-◌, length}
use Rattle.html_scan.proofs.values.decoded.Given as goal

abbrev pub invariant-loop-at : goal.invariant-loop-at
invariant-loop-at l = l.at ≤ length l.written

abbrev pub decreases-loop-at : goal.decreases-loop-at
decreases-loop-at l = length l.written - l.at
