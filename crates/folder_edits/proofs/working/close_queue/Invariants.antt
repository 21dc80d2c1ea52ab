use Rattle.std.proofs.Common.{◌≡◌, true}
use Rattle.transform_pool.specs.Passes as pool
use Rattle.folder_edits.proofs.working.close_queue.Given as goal

abbrev pub invariant-loop : goal.invariant-loop
invariant-loop g l =
    (goal.iterator-loop g).can_next l.iterator' × (goal.iterator-loop g).is_finite l.iterator'
    × pool.IsPassOf l.queue l.jobs
    × ((pool.role_of l.jobs).puts ≡ true)
