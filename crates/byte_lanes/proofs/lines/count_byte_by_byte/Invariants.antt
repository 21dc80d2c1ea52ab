use Rattle.std.proofs.Common.{◌≡◌, ◌+◌, ◌≤◌, drop}
use Rattle.module_semantics.specs.Lines.{line_feeds}
use Rattle.byte_lanes.proofs.lines.count_byte_by_byte.Given as goal

-- those so far, and those of what is left, are all
abbrev pub invariant-loop-byte : goal.invariant-loop-byte
invariant-loop-byte l = (l.count + line_feeds (drop l.byte-index l.bytes) ≡ line_feeds l.bytes) × (l.count ≤ l.byte-index)
