use Rattle.transform_pool.proofs.Moves.{takes_back}
use Rattle.transform_pool.proofs.queue.JobQueue.take_back.Goals as goal

pub pop_as-requires-clause-rule : goal.pop_as-requires-clause-rule
pop_as-requires-clause-rule g c = (takes_back _ _ c.requires.puts, λ items views r at. tt)
