use Rattle.transform_pool.proofs.Moves.{puts, puts_last}
use Rattle.transform_pool.proofs.queue.JobQueue.put.Goals as goal

pub push_as-requires-clause-rule : goal.push_as-requires-clause-rule
push_as-requires-clause-rule g c =
    (puts _ _ _ _ c.requires.puts c.requires.unclosed, puts_last _ _ c.requires.puts c.requires.unclosed)
