use Rattle.std.proofs.Common.{◌≡◌, ◌≤◌, drop, fold}
use Rattle.play_script.specs.Script.{with_digit}
use Rattle.play_script.proofs.numbers.value_of.Given as goal

-- the digits that are left go on from the value so far
abbrev pub invariant-loop-digit : goal.invariant-loop-digit
invariant-loop-digit l = record {
  same : fold with_digit l.value (drop l.digit-index l.digits) ≡ fold with_digit 0 l.digits;
  small : l.value ≤ l.most;
}
