use Rattle.std.proofs.Common.{◌≡◌, ◌+◌, ◌-◌, ◌≤◌, ◌++◌, length, take, drop, suc}
use Rattle.module_semantics.specs.Lines.{line_feeds}
use Rattle.byte_lanes.specs.Starts.{starts_after, starts_of}
use Rattle.byte_lanes.proofs.lines.line_starts.Given as goal

-- the lines up to `start` are written, and what stands after them is as it was
abbrev pub invariant-loop-line : goal.invariant-loop-line
invariant-loop-line l =
    (l.start ≤ length l.text) × (length l.into ≡ length l.fn.into) × (l.count + line_feeds (drop l.start l.text) ≡ suc (line_feeds l.text))
    × (take l.count l.into ++ starts_after l.start (drop l.start l.text) ≡ starts_of l.text) × (drop l.count l.into ≡ drop l.count l.fn.into)

abbrev pub decreases-loop-line : goal.decreases-loop-line
decreases-loop-line l = length l.text - l.start
