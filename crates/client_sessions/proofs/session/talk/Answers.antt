use Rattle.std.proofs.Common.{◌∙◌, [], refl, sym, subst, arith}
use Rattle.update_msgs.specs.Writable.{IsFormat}
use Rattle.client_sessions.specs.Asking.{past_after}
use Rattle.client_sessions.proofs.Talking.{talked_none, talked_more, ended_in_turn, ended_at_bye}
use Rattle.client_sessions.proofs.session.talk.Goals as goal

pub loop-init : goal.loop-init
loop-init g c = record {
  is_open = c.requires.is_open;
  talked = λ opening s. talked_none opening _ _ _ _ _ c.requires.none s;
  new = c.requires.untaken;
  running = sym c.requires.untaken.1.keeps.stopped;
  format = refl;
  words = c.requires.words;
  later = omega arith;
}

pub turn-requires-clause-stands : goal.turn-requires-clause-stands
turn-requires-clause-stands g c =
    let k = c.loop.invariant.talked c.loop.invariant.new.0 c.loop.invariant.new.1 in
    (c.loop.invariant.new.0, (past_after [] k.answers, k.stands))

pub returns-in-Err-clause-course : goal.returns-in-Err-clause-course
returns-in-Err-clause-course g c = λ opening s.
    let k = c.loop.invariant.talked opening s in
    ended_in_turn c.in-Err.ended opening _ _ _ _ _ _ _ _ _ _ _ _ _ k (omega (arith, c.loop-test.true, c.from-end.ensures)) c.loop.invariant.format (rw c.in-Err.is at c.turn.ensures.turns opening (past_after [] k.answers) k.stands)

pub loop-preserved : goal.loop-preserved
loop-preserved g c = record {
  is_open = c.turn.ensures.is_open;
  talked = λ opening s.
      let k = c.loop.invariant.talked opening s in
      talked_more opening _ _ _ _ _ _ _ _ _ _ _ _ _ k c.loop.invariant.format (rw c.in-Ok.is at c.turn.ensures.turns opening (past_after [] k.answers) k.stands);
  new = c.loop.invariant.new;
  running = rw c.in-Ok.is at c.turn.ensures.running;
  format = c.turn.ensures.format ∙ c.loop.invariant.format;
  words = c.turn.ensures.words;
  later = omega (arith, c.turn.ensures.later, c.loop.invariant.later);
}

pub bye-requires-clause-format : goal.bye-requires-clause-format
bye-requires-clause-format g c =
    let k = c.loop.invariant.talked c.loop.invariant.new.0 c.loop.invariant.new.1 in
    subst IsFormat (sym c.format.ensures) k.stands.sound.format

pub returns-clause-course : goal.returns-clause-course
returns-clause-course g c = λ opening s.
    let k = c.loop.invariant.talked opening s in
    ended_at_bye c.bye.result opening _ _ _ _ _ _ _ _ _ _ _ _ k (omega (arith, c.loop-test.false, c.loop.auto.counter-end, c.from-end.ensures)) (c.format.ensures ∙ c.loop.invariant.format) c.bye.ensures.ends
