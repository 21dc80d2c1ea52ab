use Rattle.std.proofs.Common.{◌≡◌, ◌++◌, drop}
use Rattle.std.specs.List.{flat_map}
use Rattle.live_lines.specs.Objects.{string_byte}
use Rattle.live_lines.proofs.json_pieces.put_string_bytes.Given as goal

-- what is written, and the text of what is left, is the whole
abbrev pub invariant-loop-byte : goal.invariant-loop-byte
invariant-loop-byte l = l.out.items ++ flat_map string_byte (drop l.byte-index l.text) ≡ l.initial.out.items ++ flat_map string_byte l.text
