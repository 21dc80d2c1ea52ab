use Rattle.std.proofs.Common.{◌+◌, ◌*◌}
use Rattle.transform_pool.proofs.parallel.+halves.Given as goal

-- each half has fewer workers
abbrev pub decreases-run_jobs : goal.decreases-run_jobs
decreases-run_jobs g l = 2 * l.workers

abbrev pub decreases-front : goal.decreases-front
decreases-front g l = 2 * l.few + 1

abbrev pub decreases-back : goal.decreases-back
decreases-back g l = 2 * l.many + 1
