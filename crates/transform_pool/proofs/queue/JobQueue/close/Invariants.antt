use Rattle.std.proofs.Common.{◌≡◌}
use Rattle.transform_pool.specs.Passes.{IsPassOf, role_of}
use Rattle.transform_pool.specs.Roles.{SamePuts}
use Rattle.transform_pool.proofs.queue.JobQueue.close.Given as goal

-- no job was taken back so far
abbrev pub invariant-loop : goal.invariant-loop
invariant-loop g l =
    (goal.iterator-loop g).can_next l.iterator' × (goal.iterator-loop g).is_finite l.iterator'
    × IsPassOf l.self l.pass × SamePuts (role_of l.fn.pass) (role_of l.pass)
    × ((role_of l.pass).took ≡ (role_of l.fn.pass).took)
