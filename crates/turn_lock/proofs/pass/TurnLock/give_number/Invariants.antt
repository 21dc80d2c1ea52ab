use Rattle.std.proofs.Common.{◌≡◌, ◌<◌}
use Rattle.turn_lock.specs.Views.{most_numbers}
use Rattle.turn_lock.proofs.pass.TurnLock.give_number.Given as goal

abbrev pub invariant-loop : goal.invariant-loop
invariant-loop g l =
    (goal.iterator-loop g).can_next l.iterator' × (goal.iterator-loop g).is_finite l.iterator'
    × record { table : l.seat.table_id ≡ l.fn.seat.table_id; same : l.seat.me ≡ l.fn.seat.me; low : 0 < l.made; high : l.made < most_numbers }
