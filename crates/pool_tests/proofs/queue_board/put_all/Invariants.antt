use Rattle.std.proofs.Common.{◌≡◌, true, false}
use Rattle.transform_pool.specs.Passes.{IsPassOf, role_of}
use Rattle.pool_tests.proofs.queue_board.put_all.Given as goal

abbrev pub invariant-loop-job : goal.invariant-loop-job
invariant-loop-job g l = record {
  of : IsPassOf l.queue l.pass;
  puts : (role_of l.pass).puts ≡ true;
  unclosed : (role_of l.pass).closed ≡ false;
}
