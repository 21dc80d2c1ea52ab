use Rattle.std.proofs.Common.{◌≡◌, ◌∙◌, sym, ap, subst, true}
use Rattle.std.specs.Prelude.{Err}
use Rattle.std.proofs.lemmas.Bool.{false≢true}
use Rattle.update_msgs.specs.Writable.{IsFormat, IsWritable}
use Rattle.sessions.specs.declared.ended.Ended.TheVariants.{NoMemory}
use Rattle.client_sessions.specs.Asking.{ended_by}
use Rattle.client_sessions.proofs.Turning.{turn_ended, ended_so, unasked, unanswered, exchanged_so, not_taken, untold, still_running}
use Rattle.client_sessions.proofs.session.turn.Goals as goal

pub returns-in_err-asked-clause-turns : goal.returns-in_err-asked-clause-turns
returns-in_err-asked-clause-turns g c = λ opening past s. turn_ended NoMemory _ opening past _ _ _ _ _ _ _ _ c.from_residual.ensures.1 (unasked opening past _ _ _ _)

pub exchange-requires-clause-format : goal.exchange-requires-clause-format
exchange-requires-clause-format g c = subst IsFormat (sym c.format.ensures) c.requires.stands.1.1.sound.format

pub exchange-requires-clause-sayable : goal.exchange-requires-clause-sayable
exchange-requires-clause-sayable g c = c.in_ok-asked.ensures.sayable c.requires.stands.0 c.requires.stands.1.0 c.requires.stands.1.1

pub returns-in_err-answer-clause-turns : goal.returns-in_err-answer-clause-turns
returns-in_err-answer-clause-turns g c = λ opening past s.
    turn_ended c.in_err-answer.field-0.0 _ opening past _ _ _ _ _ _ _ _ c.from_residual-in_err-answer.ensures.1
    (unanswered opening past _ _ c.in_ok-asked.asked _ _ _ _ _ _ c.format.ensures (c.in_ok-asked.ensures.request opening past s) c.in_err-answer.ensures.ends)

pub take-requires-clause-writable : goal.take-requires-clause-writable
take-requires-clause-writable g c = subst (λ f. IsWritable f c.in_ok-answer.answer) c.format.ensures c.in_ok-answer.ensures.writable

pub returns-in-Err-clause-turns : goal.returns-in-Err-clause-turns
returns-in-Err-clause-turns g c = λ opening past s.
    ended_so (ended_by c.in-Err.fault) _ opening past _ _ _ _ _ _ _ c.ended_by.ensures.ended
    (not_taken c.in-Err.fault opening past _ _ _ _ _ _ c.in_ok-answer.answer
    (exchanged_so opening past _ _ c.in_ok-asked.asked _ _ _ _ c.in_ok-answer.answer c.format.ensures (c.in_ok-asked.ensures.request opening past s) c.in_ok-answer.ensures.exchanged)
    (λ e. let x : c.args.runtime.now.stopped ≡ true = c.in-Err.ensures.stopped.0 (ap Err e) in false≢true (sym c.requires.running ∙ x))
    (c.in-Err.ensures.answer opening past s))

pub returns-in_err-append-clause-turns : goal.returns-in_err-append-clause-turns
returns-in_err-append-clause-turns g c = λ opening past s.
    turn_ended NoMemory _ opening past _ _ _ _ _ _ _ _ c.from_residual-in_err-append.ensures.1
    (untold opening past _ _ _ _ _ _ _ c.in_ok-answer.answer c.in_err-append.ensures.items
    (exchanged_so opening past _ _ c.in_ok-asked.asked _ _ _ _ c.in_ok-answer.answer c.format.ensures (c.in_ok-asked.ensures.request opening past s) c.in_ok-answer.ensures.exchanged))

pub returns-clause-turns : goal.returns-clause-turns
returns-clause-turns g c = λ opening past s. record {
  answer = c.in_ok-answer.answer;
  more = c.in-Ok.more.items;
  exchanged = exchanged_so opening past _ _ c.in_ok-asked.asked _ _ _ _ c.in_ok-answer.answer c.format.ensures (c.in_ok-asked.ensures.request opening past s) c.in_ok-answer.ensures.exchanged;
  taken = c.in-Ok.ensures.answer opening past s;
  lines_are = c.in_ok-append.ensures.items;
  stands = c.in-Ok.ensures.stands opening past s;
}

pub returns-clause-running : goal.returns-clause-running
returns-clause-running g c =
    still_running c.requires.stands.0 c.requires.stands.1.0 c.in_ok-answer.answer c.in-Ok.more.items _
    (c.in-Ok.ensures.answer c.requires.stands.0 c.requires.stands.1.0 c.requires.stands.1.1)
    (c.in-Ok.ensures.stands c.requires.stands.0 c.requires.stands.1.0 c.requires.stands.1.1)
