use Rattle.turn_lock.proofs.Steps.{opens}
use Rattle.turn_lock.proofs.pass.TurnLock.new.Goals as goal

pub new-requires : goal.new-requires
new-requires g c = rw (c.push_reserved.ensures.items, c.in_ok-slots.ensures.items, c.of-opening.ensures) (opens g.T.Keeps.history g.T.Keeps.may g.T.Keeps.follows c.args.value c.requires.empty c.requires.follows)
