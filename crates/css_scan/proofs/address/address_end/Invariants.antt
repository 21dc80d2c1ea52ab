use Rattle.std.proofs.Common.{◌≡◌, drop}
use Rattle.css_scan.specs.Addresses.{address_end, end_from}
use Rattle.css_scan.proofs.address.address_end.Given as goal

abbrev pub invariant-loop-at : goal.invariant-loop-at
invariant-loop-at l = end_from l.at l.quoting l.inside (drop l.at l.text) ≡ address_end l.text l.from l.quoting
