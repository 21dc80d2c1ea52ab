use Rattle.std.proofs.Common.{◌≡◌, ◌≤◌, drop}
use Rattle.request_details.specs.Bodies.{number}
use Rattle.request_details.specs.declared.body.TheConstants.{BODY_BYTES}
use Rattle.request_details.proofs.body.sized.Given as goal

abbrev pub invariant-loop-b : goal.invariant-loop-b
invariant-loop-b l =
    (number 0 l.digits ≡ number l.count (drop l.b-index l.digits)) × (l.count ≤ BODY_BYTES)
