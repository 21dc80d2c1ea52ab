use Rattle.std.specs.Prelude.{All, true}
use Rattle.std.proofs.Common.{◌≡◌, arith, ap, sym, ◌∙◌, subst}
use Rattle.turn_lock.specs.Calls.{Joined}
use Rattle.turn_lock.specs.Rule.{Met}
use Rattle.turn_lock.proofs.Steps.{joins, meets}
use Rattle.turn_lock.proofs.Calls.{joins_views}
use Rattle.turn_lock.proofs.pass.TurnLock.join.Goals as goal

pub join_seat-requires : goal.join_seat-requires
join_seat-requires g c = (
  c.requires.into,
  c.requires.other,
  c.args.other.idle.empty,
  omega (arith, c.args.self.now.sized.0),
  joins g.T.Keeps.history g.T.Keeps.may g.T.Keeps.follows _ _ _ _ c.args.into.now.idle.holds c.args.into.now.idle.spent c.args.other.idle.holds,
)

pub load-requires : goal.load-requires
load-requires g c = (
  c.join_seat.ensures.0 ∙ c.requires.into,
  omega (arith, c.args.self.now.sized.0),
  meets g.T.Keeps.history g.T.Keeps.may g.T.Keeps.follows _ _ _,
)

pub returns-clause-joined : goal.returns-clause-joined
returns-clause-joined g c =
    let v = c.args.into.now.seat.me.0 in
    let w = c.args.other.seat.me.0 in
    let both = ap (λ m. m.0) c.join_seat.ensures.2 in
    subst (λ u. Joined v w u) (sym (ap (λ m. m.0) c.load.ensures.2.0 ∙ both)) (joins_views v w (subst (λ u. Met u) both c.load.ensures.2.1))

pub returns-clause-allowed : goal.returns-clause-allowed
returns-clause-allowed g c = subst (λ m. All (λ e. g.T.Keeps.may e.0 e.1 ≡ true) m.0.seen) (sym c.load.ensures.2.0) c.load.ensures.2.2
