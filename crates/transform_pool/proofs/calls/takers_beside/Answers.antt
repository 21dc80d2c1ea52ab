use Rattle.std.proofs.Common.{ap}
use Rattle.transform_pool.specs.declared.item.Role.{Role}
use Rattle.transform_pool.proofs.Moves.{forks}
use Rattle.transform_pool.proofs.calls.takers_beside.Goals as goal

pub another-taker-requires-clause-rule : goal.another-taker-requires-clause-rule
another-taker-requires-clause-rule c =
    let same = c.loop.invariant.same in
    forks _ _ (ap (λ (v : Role). v.puts) same) (ap (λ (v : Role). v.closed) same)
