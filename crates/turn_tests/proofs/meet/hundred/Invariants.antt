use Rattle.std.proofs.Common.{◌≡◌}
use Rattle.turn_lock.specs.Passes.{IsPassOf, pass_view}
use Rattle.turn_tests.specs.Totals.{made_by}
use Rattle.turn_tests.proofs.meet.hundred.Given as goal

abbrev pub invariant-loop-amount : goal.invariant-loop-amount
invariant-loop-amount g l = record {
  pass : IsPassOf l.lock l.pass;
  made : made_by (pass_view l.pass) ≡ l.amount;
}
