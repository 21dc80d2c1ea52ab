use Rattle.std.proofs.Common.{◌≡◌, ◌++◌, drop}
use Rattle.std.specs.List.{flat_map}
use Rattle.play_text.specs.Texts.{escaped}
use Rattle.play_text.proofs.pieces.put_escaped_bytes.Given as goal

-- what is written, and the text of what is left, is the whole
abbrev pub invariant-loop-byte : goal.invariant-loop-byte
invariant-loop-byte l = l.out.items ++ flat_map escaped (drop l.byte-index l.text) ≡ l.initial.out.items ++ flat_map escaped l.text
