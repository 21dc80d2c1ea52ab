use Rattle.std.proofs.Common.{◌≡◌, ◌++◌, drop}
use Rattle.record_text.specs.Texts.{rows_text}
use Rattle.record_text.proofs.pieces.put_rows.Given as goal

-- what is written, and the text of the rows that are left, is the whole
abbrev pub invariant-loop-name : goal.invariant-loop-name
invariant-loop-name l = l.out.items ++ rows_text (drop l.name-index l.rows) ≡ l.initial.out.items ++ rows_text l.rows
