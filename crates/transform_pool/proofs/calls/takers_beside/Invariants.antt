use Rattle.std.proofs.Common.{◌≡◌, length}
use Rattle.std.specs.Prelude.{All}
use Rattle.crossbeam_queue.specs.Passes.{view}
use Rattle.transform_pool.specs.Passes.{IsSeatOf, IsTakerOf, role_of}
use Rattle.transform_pool.specs.Roles.{putting, taking}
use Rattle.transform_pool.proofs.calls.takers_beside.Given as goal

-- the passes so far
abbrev pub invariant-loop : goal.invariant-loop
invariant-loop l = record {
  of : IsSeatOf l.ring l.seat;
  same : view l.seat ≡ putting;
  count : length l.passes.items ≡ l.counter;
  each_of : All (λ p. IsTakerOf l.ring l.takers p) l.passes.items;
  each_takes : All (λ p. role_of p ≡ taking) l.passes.items;
}
