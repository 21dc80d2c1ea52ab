use Rattle.std.proofs.Common.{◌≡◌, drop}
use Rattle.request_details.specs.Bodies.{are_digits}
use Rattle.request_details.proofs.body.are_digits.Given as goal

abbrev pub invariant-loop-b : goal.invariant-loop-b
invariant-loop-b l = are_digits l.text ≡ are_digits (drop l.b-index l.text)
