use Rattle.std.proofs.Common.{arith, subst}
use Rattle.turn_lock.specs.Steps.{Grew}
use Rattle.turn_lock.proofs.Steps.{counts}
use Rattle.turn_lock.proofs.pass.TurnLock.count.Goals as goal

pub store-requires : goal.store-requires
store-requires g c = (
  c.requires.table,
  omega (arith, c.args.self.now.sized.0),
  counts g.T.Keeps.history g.T.Keeps.may g.T.Keeps.follows _ _ _ c.args.by
      (subst (λ b. Grew g.T.Keeps.history g.T.Keeps.may g.T.Keeps.follows c.args.by b c.args.seat.now.me) c.if-recorded.true c.requires.grew),
)
