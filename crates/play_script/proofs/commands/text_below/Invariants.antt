use Rattle.std.proofs.Common.{◌≡◌, [], ◌++◌, length}
use Rattle.play_script.specs.Script.{lines_from, text_below}
use Rattle.play_script.proofs.commands.text_below.Given as goal

-- the text so far, and that of what is left, is the whole
abbrev pub invariant-loop-first : goal.invariant-loop-first
invariant-loop-first l = l.text.items ++ text_below (lines_from [] l.left) ≡ text_below (lines_from [] l.below)

abbrev pub decreases-loop-first : goal.decreases-loop-first
decreases-loop-first l = length l.left
