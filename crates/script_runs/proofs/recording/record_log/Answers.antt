use Rattle.script_runs.specs.Recording.{events_of}
use Rattle.script_runs.proofs.Logged.{ended_well, full_is, stop_recorded}
use Rattle.script_runs.proofs.recording.record_log.Goals as goal

pub record_events-requires-clause-some : goal.record_events-requires-clause-some
record_events-requires-clause-some c =
    let some = c.requires.some in
    record {
      events = events_of some.stage some.part;
      is = (ended_well some.stage some.part c.args.played _ c.args.log c.in-Ok.is some.is).1;
    }

pub returns-in-Ok : goal.returns-in-Ok
returns-in-Ok c = λ stage p h rooted.
    let well = ended_well stage p c.args.played _ c.args.log c.in-Ok.is h in
    c.record_events.ensures stage p well.1 well.0 rooted

pub returns-in-Err : goal.returns-in-Err
returns-in-Err c = λ stage p h rooted.
    stop_recorded stage p c.stop_at.result
    (c.stop_at.ensures stage p (λ e. h.ended (full_is c.args.played c.in-Err.stop c.in-Err.is e))
    (λ e. h.stopped (full_is c.args.played c.in-Err.stop c.in-Err.is e)))
