use Rattle.std.proofs.Common.{◌≡◌, map}
use Rattle.transform_pool.specs.Results.{result_of}
use Rattle.transform_pool.proofs.parallel.run_in_turn.Given as goal

-- the results so far
abbrev pub invariant-loop-job : goal.invariant-loop-job
invariant-loop-job l = l.done.items ≡ map result_of l.yielded
