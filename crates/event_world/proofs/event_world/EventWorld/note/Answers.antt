use Rattle.std.proofs.Common.{ap, sym, ◌∙◌}
use Rattle.std.specs.Prelude.{Some, None, option_map}
use Rattle.events_and_replies.specs.Said.{event_of}
use Rattle.event_runs.specs.Steps.{event_step_of}
use Rattle.event_runs.proofs.Logging.{logged_off, logged_on, logged_still, told_so_far}
use Rattle.event_world.proofs.Standing.{of_ok}
use Rattle.event_world.proofs.event_world.EventWorld.note.Goals as goal

-- no events are logged
pub returns-then-not-is_on-clause-noted : goal.returns-then-not-is_on-clause-noted
returns-then-not-is_on-clause-noted g c = λ run h l.
    logged_off _ c.args.self.now.log (sym c.is_on.ensures ∙ c.if-not-is_on.true)

-- an event is told
pub returns-in-Some-clause-noted : goal.returns-in-Some-clause-noted
returns-in-Some-clause-noted g c = λ run h l.
    let told = sym (ap (option_map event_of) c.in-Some.is) ∙ c.in_ok-event.ensures run h in
    of_ok c.push.result
    (logged_on run (event_step_of c.args.step.now) (Some (event_of c.in-Some.event)) c.push.new.self told)
    (c.push.ensures.log (told_so_far run) l)

-- nothing is told
pub returns-in-None-clause-noted : goal.returns-in-None-clause-noted
returns-in-None-clause-noted g c = λ run h l.
    let told = sym (ap (option_map event_of) c.in-None.is) ∙ c.in_ok-event.ensures run h in
    let log = c.args.self.now.log in
    logged_on run (event_step_of c.args.step.now) None log told (logged_still run log l)
