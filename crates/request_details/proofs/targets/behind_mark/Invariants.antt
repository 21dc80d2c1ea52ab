use Rattle.std.proofs.Common.{◌≡◌, drop}
use Rattle.request_details.specs.Details.{behind_mark}
use Rattle.request_details.proofs.targets.behind_mark.Given as goal

abbrev pub invariant-loop-at : goal.invariant-loop-at
invariant-loop-at l = behind_mark l.target ≡ behind_mark (drop l.at l.target)
