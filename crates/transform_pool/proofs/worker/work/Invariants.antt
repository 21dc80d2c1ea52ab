use Rattle.std.proofs.Common.{◌≡◌, false}
use Rattle.transform_pool.specs.Working.{IsGated, Working}
use Rattle.transform_pool.proofs.worker.work.Given as goal

-- the results of all jobs that were taken so far were posted, and their versions have passed the gate
abbrev pub invariant-loop : goal.invariant-loop
invariant-loop g l =
    let b = g.B.Board in
    (goal.iterator-loop g).can_next l.iterator' × (goal.iterator-loop g).is_finite l.iterator'
    × (b.ended l.board ≡ false) × (b.full l.board ≡ false)
    × Working (b.taken l.fn.board) (b.taken l.board) (b.posted l.fn.board) (b.posted l.board) l.count
    × b.stays l.fn.board l.board
    × IsGated (g.G.Gate.passed l.gate) (b.posted l.fn.board) (b.posted l.board)
