use Rattle.std.proofs.Common.{ap, map, refl, ◌∙◌}
use Rattle.output_lines.specs.declared.out_line.OutLine.TheVariants.{Full}
use Rattle.event_runs.specs.Runs.{course_of}
use Rattle.event_world.proofs.Standing.{emit_stepped}
use Rattle.event_world.proofs.event_world.EventWorld.emit.Goals as goal

pub returns-clause-step : goal.returns-clause-step
returns-clause-step g c = λ run h.
    let emitted = c.in_ok-full.ensures in
    let past = (course_of run).calls in
    let event = c.args.event.now in
    emit_stepped run event c.args.value.now c.args.self.now _ c.in_ok-lines.lines c.in_ok-full.full.items h refl
    (emitted.answer past h.lists_stand)
    (c.in_ok-lines.ensures ∙ ap (map (λ i. Full i event)) c.deref.ensures.value) (emitted.stands past h.lists_stand)
