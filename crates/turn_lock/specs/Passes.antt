-- Passes and their lock.
use Rattle.std.specs.Prelude.{◌≡◌, ℕ}
use Rattle.turn_lock.specs.declared.view.View.{View}
use Rattle.turn_lock.specs.declared.pass.Pass.{Pass}
use Rattle.turn_lock.specs.declared.pass.TurnLock.{TurnLock}

module _ {T E : Type 0} where
  -- what the pass knows
  abbrev pub pass_view : Pass T E → View T E
  pass_view p = p.seat.me.0

  -- the number of the pass
  abbrev pub pass_number : Pass T E → ℕ
  pass_number p = p.number

-- it is a pass of this lock
abbrev pub IsPassOf : {T E P : Type 0} → TurnLock T E P → Pass T E → Type 0
IsPassOf lock p = p.seat.table_id ≡ lock.table.shared.table_id
