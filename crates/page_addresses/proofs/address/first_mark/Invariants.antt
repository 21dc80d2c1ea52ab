use Rattle.std.proofs.Common.{◌≡◌, drop}
use Rattle.page_addresses.specs.Addresses.{first_mark}
use Rattle.page_addresses.proofs.address.first_mark.Given as goal

abbrev pub invariant-loop-i : goal.invariant-loop-i
invariant-loop-i l = first_mark (drop l.i l.address) ≡ first_mark l.address
