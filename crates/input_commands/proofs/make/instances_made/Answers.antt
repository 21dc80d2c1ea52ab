use Rattle.std.proofs.Common.{ap, ◌∙◌}
use Rattle.std.specs.Prelude.{count_by}
use Rattle.world_model.specs.World.{fates}
use Rattle.event_runs.specs.Courses.{Moved, plain, world_in}
use Rattle.event_runs.specs.Runs.{course_of, stage_of}
use Rattle.made_scripts.specs.Summary.{is_instance}
use Rattle.script_runs.proofs.Instances.{fates_count, fates_go_on}
use Rattle.input_commands.proofs.Stepping.{same_step}
use Rattle.input_commands.proofs.make.instances_made.Goals as goal

pub returns-in-Ok-clause-made : goal.returns-in-Ok-clause-made
returns-in-Ok-clause-made g c = λ stage w h.
    let told = ap (λ (s : Moved). s.lines) (same_step stage w c.args.world.now h (plain (fates c.args.client)))
    ∙ c.in-Ok.ensures.lines h.run h.stands in
    c.count_instances.ensures
    ∙ (ap (count_by is_instance) c.deref.ensures.value ∙ fates_count c.args.client (world_in stage w) c.in-Ok.lines.items told)

pub unreachable-requires : goal.unreachable-requires
unreachable-requires g c =
    let full = c.in-Err-InstancesFull in
    let running = c.requires.running in
    fates_go_on c.args.client (world_in (stage_of running.run) (course_of running.run)) full.field-0 (full.ensures.lines running.run running.stands)
    full.field-0-is
