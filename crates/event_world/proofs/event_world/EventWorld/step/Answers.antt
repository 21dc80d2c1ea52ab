use Rattle.event_runs.specs.Runs.{run_of, run_on}
use Rattle.event_runs.specs.Steps.{event_step_of}
use Rattle.event_world.proofs.Logging.{logged_after, runs_noted, stands_noted}
use Rattle.event_world.proofs.Standing.{of_ok, on_ok, runs_on}
use Rattle.event_world.proofs.event_world.EventWorld.step.Goals as goal

pub made-requires-clause-running : goal.made-requires-clause-running
made-requires-clause-running g c =
    let noted = c.in_ok-note.ensures in
    runs_noted c.args.self.now c.note.new.self noted.world noted.waiting c.requires.running

pub returns-clause-stands : goal.returns-clause-stands
returns-clause-stands g c = λ run h.
    let noted = c.in_ok-note.ensures in
    (c.made.ensures.step run (stands_noted run c.args.self.now c.note.new.self noted.world noted.waiting h)).stands

pub returns-clause-lines : goal.returns-clause-lines
returns-clause-lines g c = λ run h.
    let noted = c.in_ok-note.ensures in
    (c.made.ensures.step run (stands_noted run c.args.self.now c.note.new.self noted.world noted.waiting h)).lines

pub returns-clause-logged : goal.returns-clause-logged
returns-clause-logged g c = λ run h l.
    on_ok c.made.result
    (logged_after (run_on run (event_step_of c.args.step)) c.note.new.self c.made.new.self c.made.ensures.log
    (c.in_ok-note.ensures.noted run h l))

pub returns-clause-stopped : goal.returns-clause-stopped
returns-clause-stopped g c = λ run h l full.
    logged_after (run_on run (event_step_of c.args.step)) c.note.new.self c.made.new.self c.made.ensures.log
    (c.in_ok-note.ensures.noted run h l)

pub returns-clause-running : goal.returns-clause-running
returns-clause-running g c =
    let before = c.requires.running in
    runs_on before.run (event_step_of c.args.step) c.made.new.self c.made.result
    (returns-clause-stands g c before.run before.stands)

pub returns-clause-there : goal.returns-clause-there
returns-clause-there g c = λ run h.
    of_ok c.made.result (λ stands. stands.keeps.there) (returns-clause-stands g c run h)

pub returns-clause-heard : goal.returns-clause-heard
returns-clause-heard g c = λ run h.
    of_ok c.made.result (λ stands. stands.keeps.heard) (returns-clause-stands g c run h)

pub returns-clause-listeners : goal.returns-clause-listeners
returns-clause-listeners g c = λ run h.
    of_ok c.made.result (λ stands. stands.keeps.listeners) (returns-clause-stands g c run h)

pub returns-clause-promises : goal.returns-clause-promises
returns-clause-promises g c = λ run h.
    on_ok c.made.result (c.what_is_promised_of_runs.ensures (run_of (run_on run (event_step_of c.args.step))))
