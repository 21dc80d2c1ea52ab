use Rattle.transform_pool.proofs.Moves.{marks, marks_last}
use Rattle.transform_pool.proofs.queue.JobQueue.put_mark.Goals as goal

pub push_as-requires-clause-rule : goal.push_as-requires-clause-rule
push_as-requires-clause-rule g c = (marks _ _ _ c.requires.puts, marks_last _ _ c.requires.puts)
