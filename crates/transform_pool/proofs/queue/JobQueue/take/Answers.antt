use Rattle.std.proofs.Common.{◌∙◌, ap}
use Rattle.transform_pool.specs.declared.item.Role.{Role}
use Rattle.transform_pool.proofs.Moves.{takes}
use Rattle.transform_pool.proofs.queue.JobQueue.take.Goals as goal

pub pop_as-requires-clause-rule : goal.pop_as-requires-clause-rule
pop_as-requires-clause-rule g c =
    (takes _ _ (ap (λ (v : Role). v.puts) c.loop.invariant.3 ∙ c.requires.takes), λ items views r at. tt)
