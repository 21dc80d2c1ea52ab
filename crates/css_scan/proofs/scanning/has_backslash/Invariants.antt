use Rattle.std.proofs.Common.{◌≢◌, ℕ, ◌≤◌, ◌<◌, get_or}
use Rattle.css_scan.proofs.scanning.has_backslash.Given as goal

abbrev pub invariant-loop-at : goal.invariant-loop-at
invariant-loop-at l = (k : ℕ) → l.fn.span.start ≤ k → k < l.at → get_or l.text k 0 ≢ 92
