use Rattle.std.proofs.Common.{◌≡◌, [], length}
use Rattle.play_script.specs.Script.{commands, lines_from}
use Rattle.play_script.proofs.commands.next_command.Given as goal

-- the lines so far say no command
abbrev pub invariant-loop-first : goal.invariant-loop-first
invariant-loop-first l = commands (lines_from [] l.left) ≡ commands (lines_from [] l.text)

abbrev pub decreases-loop-first : goal.decreases-loop-first
decreases-loop-first l = length l.left
