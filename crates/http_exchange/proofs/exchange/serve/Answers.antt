use Rattle.std.proofs.Common.{arith}
use Rattle.http_exchange.proofs.Turns.{on_closing, on_end, on_open, on_stop, serves_full}
use Rattle.http_exchange.proofs.exchange.serve.Goals as goal

pub loop-preserved : goal.loop-preserved
loop-preserved g c =
    let after = c.in-Ok-Answered-false in
    record {
      stands = on_open _ _ _ _ _ _ _ _ _ _ after.field-0 after.field-0-0 after.field-0-is after.field-0-0-test
          c.loop.invariant.stands after.ensures.turned;
      later = omega (arith, c.loop.invariant.later, c.take_turn.ensures.later);
      sink_later = omega (arith, c.loop.invariant.sink_later, c.take_turn.ensures.sink_later);
    }

pub returns-in-Err-clause-serves : goal.returns-in-Err-clause-serves
returns-in-Err-clause-serves g c =
    on_stop _ _ _ _ _ _ _ _ c.in-Err.stop c.from.result c.from.ensures c.loop.invariant.stands c.in-Err.ensures.stopped

pub returns-clause-serves : goal.returns-clause-serves
returns-clause-serves g c =
    serves_full _ c.loop.counter _ _ _ _ _ (omega (arith, c.loop-test.false, c.loop.auto.counter-end)) c.loop.invariant.stands

pub returns-in-Ok-Answered-true-clause-serves : goal.returns-in-Ok-Answered-true-clause-serves
returns-in-Ok-Answered-true-clause-serves g c =
    let after = c.in-Ok-Answered-true in
    on_closing _ _ _ _ _ _ _ _ _ _ after.field-0 after.field-0-0 after.field-0-is after.field-0-0-test
    (omega (arith, c.loop-test.true)) c.loop.invariant.stands after.ensures.turned

pub returns-in-Ok-Ended-clause-serves : goal.returns-in-Ok-Ended-clause-serves
returns-in-Ok-Ended-clause-serves g c =
    let after = c.in-Ok-Ended in
    on_end _ _ _ _ _ _ _ _ _ _ after.field-0 after.field-0-is
    (omega (arith, c.loop-test.true)) c.loop.invariant.stands after.ensures.turned
