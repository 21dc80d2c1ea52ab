use Rattle.std.proofs.Common.{◌≡◌, ◌++◌}
use Rattle.text_commands.specs.Showing.{shown}
use Rattle.text_commands.proofs.line_sink.keep_lines.Given as goal

-- those of the lines so far
abbrev pub invariant-loop-line : goal.invariant-loop-line
invariant-loop-line l = l.kept.items ≡ l.fn.kept.items ++ shown l.quiet l.yielded
