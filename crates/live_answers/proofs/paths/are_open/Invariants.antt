use Rattle.std.proofs.Common.{◌≡◌, drop, true}
use Rattle.live_answers.specs.Paths.{are_open}
use Rattle.live_answers.proofs.paths.are_open.Given as goal

abbrev pub invariant-loop-b : goal.invariant-loop-b
invariant-loop-b l = are_open true l.path ≡ are_open l.starts (drop l.b-index l.path)
