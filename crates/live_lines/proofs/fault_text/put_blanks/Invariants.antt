use Rattle.std.proofs.Common.{◌≡◌, ◌++◌, drop}
use Rattle.std.specs.List.{flat_map}
use Rattle.live_lines.specs.FaultLines.{blank_below}
use Rattle.live_lines.proofs.fault_text.put_blanks.Given as goal

-- what is written, and what is left to stand before the caret, is the whole
abbrev pub invariant-loop-byte : goal.invariant-loop-byte
invariant-loop-byte l = l.out.items ++ flat_map blank_below (drop l.byte-index l.before) ≡ l.initial.out.items ++ flat_map blank_below l.before
