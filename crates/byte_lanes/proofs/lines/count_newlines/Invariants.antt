use Rattle.std.proofs.Common.{◌≡◌, ◌+◌, ◌-◌, ◌≤◌, length, drop}
use Rattle.module_semantics.specs.Lines.{line_feeds}
use Rattle.byte_lanes.proofs.lines.count_newlines.Given as goal

abbrev pub invariant-loop-at : goal.invariant-loop-at
invariant-loop-at l = (l.at ≤ length l.text) × (l.count ≤ l.at) × (l.count + line_feeds (drop l.at l.text) ≡ line_feeds l.text)

abbrev pub decreases-loop-at : goal.decreases-loop-at
decreases-loop-at l = length l.text - l.at
