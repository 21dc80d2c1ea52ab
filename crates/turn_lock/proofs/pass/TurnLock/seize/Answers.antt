use Rattle.std.proofs.Common.{arith, sym, ◌∙◌, subst}
use Rattle.turn_lock.specs.Steps.{IsIdle}
use Rattle.turn_lock.proofs.Steps.{seizes}
use Rattle.turn_lock.proofs.pass.TurnLock.seize.Goals as goal

pub compare_exchange-requires : goal.compare_exchange-requires
compare_exchange-requires g c =
    let i = c.loop.invariant.2 in (
      i.table ∙ c.requires.table,
      omega (arith, c.args.self.now.sized.0),
      seizes g.T.Keeps.history g.T.Keeps.may g.T.Keeps.follows _ _ _ c.args.number (subst (λ m. IsIdle c.args.number m) (sym i.same) c.requires.idle),
    )
