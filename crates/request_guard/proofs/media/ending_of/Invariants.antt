use Rattle.std.proofs.Common.{◌≡◌, drop}
use Rattle.request_guard.specs.Media.{behind_dot, ending_of}
use Rattle.request_guard.proofs.media.ending_of.Given as goal

abbrev pub invariant-loop-at : goal.invariant-loop-at
invariant-loop-at l = ending_of l.name ≡ behind_dot l.found (drop l.at l.name)
