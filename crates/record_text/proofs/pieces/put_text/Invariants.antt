use Rattle.std.proofs.Common.{◌≡◌, ◌++◌, length}
use Rattle.record_text.specs.Texts.{text_lines}
use Rattle.record_text.proofs.pieces.put_text.Given as goal

-- what is written, and the lines of what is left, is the whole
abbrev pub invariant-loop-first : goal.invariant-loop-first
invariant-loop-first l = l.out.items ++ text_lines l.left ≡ l.initial.out.items ++ text_lines l.text

abbrev pub decreases-loop-first : goal.decreases-loop-first
decreases-loop-first l = length l.left
