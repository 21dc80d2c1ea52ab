use Rattle.std.proofs.Common.{◌≡◌, drop}
use Rattle.request_details.specs.Details.{holds}
use Rattle.request_details.proofs.letters.holds.Given as goal

abbrev pub invariant-loop-at : goal.invariant-loop-at
invariant-loop-at l = holds l.word l.text ≡ holds l.word (drop l.at l.text)
