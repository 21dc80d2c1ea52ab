use Rattle.std.proofs.Common.{◌≡◌, ◌++◌, drop}
use Rattle.text_commands.specs.Outputs.{lines_text}
use Rattle.text_commands.specs.Showing.{shown}
use Rattle.text_commands.proofs.showing.shown_text.Given as goal

-- the text so far, and that of the lines that are left
abbrev pub invariant-loop-line : goal.invariant-loop-line
invariant-loop-line l =
    l.text.items ++ lines_text (shown l.quiet (drop l.line-index l.lines)) ≡ lines_text (shown l.quiet l.lines)
