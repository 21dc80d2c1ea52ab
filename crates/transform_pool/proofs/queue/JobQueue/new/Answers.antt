use Rattle.transform_pool.proofs.Moves.{begins}
use Rattle.transform_pool.proofs.queue.JobQueue.new.Goals as goal

pub ruled-requires-clause-rule : goal.ruled-requires-clause-rule
ruled-requires-clause-rule c = begins
