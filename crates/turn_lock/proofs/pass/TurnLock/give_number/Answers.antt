use Rattle.std.proofs.Common.{arith, ap, ◌∙◌}
use Rattle.turn_lock.proofs.Steps.{numbers}
use Rattle.turn_lock.proofs.pass.TurnLock.give_number.Goals as goal

pub compare_exchange-found-requires : goal.compare_exchange-found-requires
compare_exchange-found-requires g c =
    let i = c.loop.invariant.2 in (
      i.table ∙ c.requires.table,
      omega (arith, c.args.self.now.sized.0),
      numbers g.T.Keeps.history g.T.Keeps.may g.T.Keeps.follows _ _ _ _ (ap (λ m. m.0.holds) i.same ∙ c.requires.idle) i.high,
    )
