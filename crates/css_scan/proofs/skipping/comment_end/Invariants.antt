use Rattle.std.proofs.Common.{◌≡◌, ◌≢◌, ℕ, ◌+◌, ◌≤◌, ◌<◌, get_or}
use Rattle.css_scan.proofs.skipping.comment_end.Given as goal

abbrev pub invariant-loop-star : goal.invariant-loop-star
invariant-loop-star l = (k : ℕ) → l.at + 2 ≤ k → k < l.star → get_or l.text k 0 ≡ 42 → get_or l.text (k + 1) 0 ≢ 47
