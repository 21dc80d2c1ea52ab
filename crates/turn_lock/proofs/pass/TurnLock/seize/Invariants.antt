use Rattle.std.proofs.Common.{◌≡◌}
use Rattle.turn_lock.proofs.pass.TurnLock.seize.Given as goal

abbrev pub invariant-loop : goal.invariant-loop
invariant-loop g l =
    (goal.iterator-loop g).can_next l.iterator' × (goal.iterator-loop g).is_finite l.iterator'
    × record { table : l.seat.table_id ≡ l.fn.seat.table_id; same : l.seat.me ≡ l.fn.seat.me }
