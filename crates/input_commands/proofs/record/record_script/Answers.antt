use Rattle.std.proofs.Common.{[], map, refl, ◌∙◌}
use Rattle.std.proofs.Math.Path.{subst}
use Rattle.handler_table.specs.Shelf.{marks_of}
use Rattle.script_runs.specs.Outputs.{record_of_run}
use Rattle.script_runs.specs.Playing.{page_played, stage_on}
use Rattle.text_commands.specs.Recorded.{Records}
use Rattle.input_commands.proofs.Recording.{page_recorded, somewhere}
use Rattle.input_commands.proofs.Summing.{made_no_fault}
use Rattle.input_commands.proofs.record.record_script.Goals as goal

pub record_on-requires-clause-somewhere : goal.record_on-requires-clause-somewhere
record_on-requires-clause-somewhere g c =
    let shelves = map marks_of c.args.shelves.items in
    let roots = c.in-Ok.roots.items in
    somewhere shelves roots c.recording-events.result
    (c.recording-events.ensures.stands _ c.in-Ok-new.ensures.stands (λ i. refl))
    (c.recording-events.ensures.logged (record { roots = roots; shelves = shelves; steps = [] }) refl)

pub returns-in-Ok-new : goal.returns-in-Ok-new
returns-in-Ok-new g c =
    let shelves = map marks_of c.args.shelves.items in
    let roots = c.in-Ok.roots.items in
    let result = c.record_on.result in
    subst (λ rs. Records (record_of_run (stage_on shelves rs) (page_played shelves rs c.args.script.now.lines)) result)
    (c.in-Ok.ensures ∙ c.roots-names.ensures)
    (subst (λ ls. Records (record_of_run (stage_on shelves roots) (page_played shelves roots ls)) result)
    c.commands.ensures
    (page_recorded shelves roots c.commands.result c.recording-events.result result
    (λ none. made_no_fault c.new.result c.in-Ok-new.world _ c.in-Ok-new.is (c.new.ensures.none.1 none))
    (c.recording-events.ensures.stands _ c.in-Ok-new.ensures.stands (λ i. refl))
    (c.recording-events.ensures.logged (record { roots = roots; shelves = shelves; steps = [] }) refl)
    (λ stage v at rooted. c.record_on.ensures stage v at (rooted ∙ c.in-Ok.ensures))))
