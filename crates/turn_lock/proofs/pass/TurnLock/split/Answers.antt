use Rattle.std.proofs.Common.{arith, ap, ◌∙◌, subst, sym}
use Rattle.atomic_table.specs.Table.{Splits}
use Rattle.turn_lock.specs.Rule.{IsLock}
use Rattle.turn_lock.specs.Views.{old_half, new_half}
use Rattle.turn_lock.proofs.Steps.{splits}
use Rattle.turn_lock.proofs.pass.TurnLock.split.Goals as goal

pub split_seat-seat-requires : goal.split_seat-seat-requires
split_seat-seat-requires g c =
    let n = c.in-Some.ensures in
    let seat = c.give_number.new.seat in (
      n.table ∙ c.requires,
      omega (arith, c.args.self.now.sized.0),
      subst (λ v. Splits (IsLock g.T.Keeps.history g.T.Keeps.may g.T.Keeps.follows) seat.id v (old_half v) (new_half v)) (sym (ap (λ m. m.0) n.some))
          (splits g.T.Keeps.history g.T.Keeps.may g.T.Keeps.follows seat.id c.in-Some.number c.args.pass.now.seat.me.0 c.args.pass.now.idle.holds c.args.pass.now.idle.spent n.given),
    )
