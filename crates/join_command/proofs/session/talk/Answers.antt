use Rattle.std.proofs.Common.{◌∙◌, [], refl, sym, subst, arith}
use Rattle.std.specs.Io.KnownBytes.{Appends}
use Rattle.hmr_base.specs.Fronts.{WritesFront}
use Rattle.client_sessions.specs.Asking.{past_after}
use Rattle.join_command.specs.Joining.{lines_text}
use Rattle.join_command.proofs.Lines.{wrote_none, wrote_more, wrote_front, wrote_ended, wrote_bye}
use Rattle.join_command.proofs.session.talk.Goals as goal

pub loop-init : goal.loop-init
loop-init g c = record {
  is_open = c.requires.is_open;
  wrote = λ opening s. wrote_none opening _ _ _ _ _ s;
  new = c.requires.untaken;
  running = sym c.requires.untaken.1.keeps.stopped;
  format = refl;
  words = c.requires.words;
  later = omega arith;
  out_later = omega arith;
}

pub turn-requires-clause-stands : goal.turn-requires-clause-stands
turn-requires-clause-stands g c =
    let k = c.loop.invariant.wrote c.loop.invariant.new.0 c.loop.invariant.new.1 in
    (c.loop.invariant.new.0, (past_after [] k.talked.answers, k.talked.stands))

pub returns-in-Err-clause-joins : goal.returns-in-Err-clause-joins
returns-in-Err-clause-joins g c = λ opening s.
    let k = c.loop.invariant.wrote opening s in
    wrote_ended c.in-Err.ended opening _ _ _ _ _ _ _ _ _ _ _ _ _ _ _ _ k
    (omega (arith, c.loop-test.true, c.from-end.ensures)) c.loop.invariant.format
    (rw c.in-Err.is at c.turn.ensures.turns opening (past_after [] k.talked.answers) k.talked.stands)
    c.ends_as.ensures.is

pub returns-in-Err-write_lines-clause-joins : goal.returns-in-Err-write_lines-clause-joins
returns-in-Err-write_lines-clause-joins g c = λ opening s.
    let k = c.loop.invariant.wrote opening s in
    wrote_front opening _ _ _ _ _ _ _ _ _ _ _ _ _ _ _ _ _ c.in-Err-write_lines.stop c.new-lines.ensures.items k
    (omega (arith, c.loop-test.true, c.from-end.ensures)) c.loop.invariant.format
    (rw c.in-Ok.is at c.turn.ensures.turns opening (past_after [] k.talked.answers) k.talked.stands)
    (subst (λ x. WritesFront (g.K.Sink.written c.loop.out) (g.K.Sink.written c.write_lines.new.out) (lines_text x))
    c.deref.ensures.value c.write_lines.ensures.front)
    c.in-Err-write_lines.ensures.stops

pub loop-preserved : goal.loop-preserved
loop-preserved g c = record {
  is_open = c.turn.ensures.is_open;
  wrote = λ opening s.
      let k = c.loop.invariant.wrote opening s in
      let all = rw c.in-Ok-write_lines.is at c.write_lines.ensures.done in
      wrote_more opening _ _ _ _ _ _ _ _ _ _ _ _ _ _ _ _ c.new-lines.ensures.items k c.loop.invariant.format
      (rw c.in-Ok.is at c.turn.ensures.turns opening (past_after [] k.talked.answers) k.talked.stands)
      (subst (λ x. Appends (g.K.Sink.written c.loop.out) (g.K.Sink.written c.write_lines.new.out) (lines_text x))
      c.deref.ensures.value all);
  new = c.loop.invariant.new;
  running = rw c.in-Ok.is at c.turn.ensures.running;
  format = c.turn.ensures.format ∙ c.loop.invariant.format;
  words = c.turn.ensures.words;
  later = omega (arith, c.turn.ensures.later, c.loop.invariant.later);
  out_later = omega (arith, c.write_lines.ensures.later, c.loop.invariant.out_later);
}

pub returns-clause-joins : goal.returns-clause-joins
returns-clause-joins g c = λ opening s.
    let k = c.loop.invariant.wrote opening s in
    wrote_bye c.bye.result opening _ _ _ _ _ _ _ _ _ _ _ _ _ _ k
    (omega (arith, c.loop-test.false, c.loop.auto.counter-end, c.from-end.ensures))
    (c.format.ensures ∙ c.loop.invariant.format) c.bye.ensures.ends c.ends_as-2.ensures.is
