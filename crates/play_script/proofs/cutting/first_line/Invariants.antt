use Rattle.std.proofs.Common.{◌≡◌, [], take, drop}
use Rattle.play_script.specs.Script.{lines_from}
use Rattle.play_script.proofs.cutting.first_line.Given as goal

-- the bytes so far are of one line
abbrev pub invariant-loop-at : goal.invariant-loop-at
invariant-loop-at l = lines_from [] l.text ≡ lines_from (take l.at l.text) (drop l.at l.text)
