use Rattle.std.proofs.Common.{◌≡◌, [], length}
use Rattle.play_script.specs.Script.{commands, lines_from}
use Rattle.play_script.specs.Edits.{edits_in}
use Rattle.play_script.proofs.edits.next_edit.Given as goal

-- the commands so far are no edits
abbrev pub invariant-loop-found : goal.invariant-loop-found
invariant-loop-found l = edits_in l.left ≡ edits_in l.text

abbrev pub decreases-loop-found : goal.decreases-loop-found
decreases-loop-found l = length (commands (lines_from [] l.left))
