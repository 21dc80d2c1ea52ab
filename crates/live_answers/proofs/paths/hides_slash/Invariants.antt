use Rattle.std.proofs.Common.{◌≡◌, drop}
use Rattle.live_answers.specs.Paths.{hides_slash}
use Rattle.live_answers.proofs.paths.hides_slash.Given as goal

abbrev pub invariant-loop-at : goal.invariant-loop-at
invariant-loop-at l = hides_slash l.target ≡ hides_slash (drop l.at l.target)
