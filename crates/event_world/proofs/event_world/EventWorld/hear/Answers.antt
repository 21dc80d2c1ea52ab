use Rattle.std.proofs.Common.{ap, refl, sym, ◌∙◌}
use Rattle.std.specs.Prelude.{Some}
use Rattle.std.proofs.lemmas.Result.{err_from_is_err_and}
use Rattle.core_model.specs.Core.{client_at}
use Rattle.module_language.specs.ModuleLanguage.{module_language}
use Rattle.world_model.specs.Turning.{heard_at}
use Rattle.world_laws.specs.Runs.{world_of}
use Rattle.event_runs.specs.Courses.{hears}
use Rattle.event_runs.specs.Runs.{course_of, run_of}
use Rattle.event_world.proofs.Standing.{fire_stops, hear_busy, hear_heard, hear_quiet, hear_unknown}
use Rattle.event_world.proofs.event_world.EventWorld.hear.Goals as goal

-- the client isn't open
pub returns-then-not-is_open-clause-step : goal.returns-then-not-is_open-clause-step
returns-then-not-is_open-clause-step g c = λ run h.
    hear_unknown run c.args.client c.args.self.now h c.in_ok-one_line.field-0 c.is_open.result
    (c.is_open.ensures (run_of run) h.world_stands) c.if-not-is_open.true c.in_ok-one_line.ensures

-- nothing waits for it
pub returns-in_default-clause-step : goal.returns-in_default-clause-step
returns-in_default-clause-step g c = λ run h.
    hear_quiet run c.args.client c.args.self.now h c.in_ok-one_line-2.field-0 c.is_open.result
    (c.is_open.ensures (run_of run) h.world_stands) c.if-not-is_open.false
    (sym (c.in_default.ensures (course_of run).calls h.lists_stand)) c.in_ok-one_line-2.ensures

-- firing it stops the run
pub returns-in_err-fire-clause-step : goal.returns-in_err-fire-clause-step
returns-in_err-fire-clause-step g c = λ run h.
    let told = err_from_is_err_and c.from_residual-in_err-fire.result c.from_residual-in_err-fire.ensures.1 in
    let r = client_at (world_of (run_of run)).clients c.args.client in
    rw (told.1, told.2) (fire_stops run (hears c.args.client) _
    (heard_at module_language c.in_ok-event.event c.parts.result.now.1 r) c.in_err-fire.field-0.0
    (c.in_err-fire.ensures.answer (run_of run) h.world_stands))

-- its page isn't loaded, or a plan is under way
pub returns-in_ok-one_line-in-None-clause-step : goal.returns-in_ok-one_line-in-None-clause-step
returns-in_ok-one_line-in-None-clause-step g c = λ run h.
    let v = c.parts.result.now.1 in
    let waits = sym (c.in-Some.ensures (course_of run).calls h.lists_stand)
    ∙ ap Some (sym c.parts.ensures ∙ ap (λ n. (n, v)) (sym c.in_ok-event.ensures)) in
    hear_busy run c.args.client c.args.self.now h c.is_open.result
    (c.is_open.ensures (run_of run) h.world_stands) c.if-not-is_open.false c.in_ok-event.event v waits _
    c.in_ok-one_line-in-None.field-0 _ refl (c.in_ok-fire.ensures.stands (run_of run) h.world_stands)
    (c.in_ok-fire.ensures.answer (run_of run) h.world_stands) c.in-None.is c.in_ok-one_line-in-None.ensures

-- it hears the event
pub returns-in_ok-behind-in-Some-2-clause-step : goal.returns-in_ok-behind-in-Some-2-clause-step
returns-in_ok-behind-in-Some-2-clause-step g c = λ run h.
    let v = c.parts.result.now.1 in
    let waits = sym (c.in-Some.ensures (course_of run).calls h.lists_stand)
    ∙ ap Some (sym c.parts.ensures ∙ ap (λ n. (n, v)) (sym c.in_ok-event.ensures)) in
    hear_heard run c.args.client c.args.self.now h c.is_open.result
    (c.is_open.ensures (run_of run) h.world_stands) c.if-not-is_open.false c.in_ok-event.event v waits _
    c.in_ok-behind-in-Some-2.field-0 c.in-Some-2.lines _
    (c.take_first.ensures.stands (course_of run).calls h.lists_stand)
    (c.in_ok-fire.ensures.stands (run_of run) h.world_stands)
    (c.in_ok-fire.ensures.answer (run_of run) h.world_stands) c.in-Some-2.is c.in_ok-behind-in-Some-2.ensures
