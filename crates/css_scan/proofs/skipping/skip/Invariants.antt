use Rattle.std.proofs.Common.{◌≤◌, ◌-◌, length}
use Rattle.css_scan.proofs.skipping.skip.Given as goal

abbrev pub invariant-loop-behind : goal.invariant-loop-behind
invariant-loop-behind l = (l.fn.at ≤ l.end) × (l.end ≤ length l.text)

abbrev pub decreases-loop-behind : goal.decreases-loop-behind
decreases-loop-behind l = length l.text - l.end
