use Rattle.std.proofs.Common.{◌≡◌, ◌++◌, drop}
use Rattle.join_command.specs.Joining.{lines_text}
use Rattle.join_command.proofs.writing.text_of.Given as goal

-- the text so far, and that of the lines that are left
abbrev pub invariant-loop-line : goal.invariant-loop-line
invariant-loop-line l = l.text.items ++ lines_text (drop l.line-index l.lines) ≡ lines_text l.lines
