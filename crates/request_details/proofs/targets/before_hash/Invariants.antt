use Rattle.std.proofs.Common.{◌≡◌, ◌++◌, take, drop}
use Rattle.request_details.specs.Details.{before_hash}
use Rattle.request_details.proofs.targets.before_hash.Given as goal

abbrev pub invariant-loop-at : goal.invariant-loop-at
invariant-loop-at l = before_hash l.text ≡ take l.at l.text ++ before_hash (drop l.at l.text)
