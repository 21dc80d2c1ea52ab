use Rattle.std.proofs.Common.{◌≡◌, ◌++◌, drop}
use Rattle.std.specs.List.{flat_map}
use Rattle.record_text.specs.Texts.{line_text}
use Rattle.record_text.proofs.writing.put_lines.Given as goal

-- what is written, and the text of the lines that are left, is the whole
abbrev pub invariant-loop-line : goal.invariant-loop-line
invariant-loop-line l = l.out.items ++ flat_map line_text (drop l.line-index l.lines) ≡ l.initial.out.items ++ flat_map line_text l.lines
