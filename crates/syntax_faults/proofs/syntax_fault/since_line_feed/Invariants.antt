use Rattle.std.proofs.Common.{◌≡◌, ◌≤◌, drop}
use Rattle.module_semantics.specs.Lines.{since_line_feed}
use Rattle.syntax_faults.proofs.syntax_fault.since_line_feed.Given as goal

-- from here, what is left ends as all of it from the beginning
abbrev pub invariant-loop-byte : goal.invariant-loop-byte
invariant-loop-byte l = record {
  all : since_line_feed l.since (drop l.byte-index l.bytes) ≡ since_line_feed 0 l.bytes;
  few : l.since ≤ l.byte-index;
}
