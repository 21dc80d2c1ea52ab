use Rattle.std.proofs.Math.Path.{subst}
use Rattle.std.proofs.lemmas.Result.{err_from_is_err_and}
use Rattle.hot_events.specs.Calls as lists
use Rattle.event_runs.specs.Courses.{calls_of}
use Rattle.event_runs.specs.Runs.{course_of, run_of}
use Rattle.event_world.proofs.Standing.{plain_stepped, plain_stops}
use Rattle.event_world.proofs.event_world.EventWorld.plain.Goals as goal

pub step-requires-clause-running : goal.step-requires-clause-running
step-requires-clause-running g c =
    let before = c.requires.running in
    record { run = run_of before.run; stands = before.stands.world_stands }

pub returns-clause-step : goal.returns-clause-step
returns-clause-step g c = λ run h.
    let made = c.in_ok-lines.ensures in
    let passage = c.passage_of-passage.result in
    plain_stepped run c.args.step c.args.self.now _ c.in_ok-lines.lines passage h c.passage_of-passage.ensures
    (made.lines (run_of run) h.world_stands) (made.stands (run_of run) h.world_stands)
    (subst (λ ls. lists.StandsFor (calls_of passage ls (course_of run).calls) c.pass.new.waiting) c.deref.ensures.value
    (c.in_ok-pass.ensures (course_of run).calls h.lists_stand))

pub returns-in_err-lines-clause-step : goal.returns-in_err-lines-clause-step
returns-in_err-lines-clause-step g c = λ run h.
    let told = err_from_is_err_and c.from_residual.result c.from_residual.ensures.1 in
    rw (told.1, told.2) (plain_stops run c.args.step _ c.in_err-lines.field-0.0
    (c.in_err-lines.ensures.lines (run_of run) h.world_stands))
