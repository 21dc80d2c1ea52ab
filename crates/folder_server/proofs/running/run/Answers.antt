use Rattle.std.proofs.Common.{[], ◌∙◌}
use Rattle.hmr_hub.specs.Passes.{all_given}
use Rattle.hmr_hub.proofs.Moves.{knows_moved}
use Rattle.hub_editor.proofs.Calls.{knows_same}
use Rattle.folder_edits.proofs.Works.{begun_all, cause_all, edited_fault, edited_tree, ends_all, finds_all, goes_all, later_all, on_ok, spent_given}
use Rattle.folder_server.proofs.running.run.Goals as goal

pub returns-clause-later : goal.returns-clause-later
returns-clause-later g c =
    let begun = c.begin_all-begun in
    let edited = c.edit_to_the_end-edited in
    let ended = c.settle_after-ended in (
      ended.new.editor.works.items,
      later_all _ _ _ _ c.args.pass.now begun.new.pass edited.new.pass ended.new.pass edited.new.editing.editor.works.items ended.new.editor.works.items edited.result ended.result
          c.requires.number (begun.ensures.begins.divided.transcript c.requires.transcript) begun.ensures.begins.divided.moved edited.ensures.edited edited.ensures.makes ended.ensures.edited ended.ensures.edits
          ended.ensures.well ended.ensures.cause ended.ensures.results,
    )

pub returns-clause-cause : goal.returns-clause-cause
returns-clause-cause g c =
    cause_all c.edit_to_the_end-edited.new.pass c.settle_after-ended.new.pass c.edit_to_the_end-edited.result c.settle_after-ended.result c.edit_to_the_end-edited.ensures.cause c.settle_after-ended.ensures.cause

pub edit_to_the_end-edited-requires-clause-spent : goal.edit_to_the_end-edited-requires-clause-spent
edit_to_the_end-edited-requires-clause-spent g c = λ e. spent_given (all_given c.args.pass.now) (all_given c.begin_all-begun.new.pass) c.begin_all-begun.result c.requires.given c.begin_all-begun.ensures.spent e

pub edit_to_the_end-edited-requires-clause-number : goal.edit_to_the_end-edited-requires-clause-number
edit_to_the_end-edited-requires-clause-number g c = c.begin_all-begun.ensures.begins.divided.moved.number ∙ c.requires.number

pub settle_after-ended-requires-clause-number : goal.settle_after-ended-requires-clause-number
settle_after-ended-requires-clause-number g c = c.edit_to_the_end-edited.ensures.same.number ∙ (c.begin_all-begun.ensures.begins.divided.moved.number ∙ c.requires.number)

pub settle_after-ended-requires-clause-knows : goal.settle_after-ended-requires-clause-knows
settle_after-ended-requires-clause-knows g c =
    knows_same c.begin_all-begun.new.pass c.edit_to_the_end-edited.new.pass c.edit_to_the_end-edited.ensures.same (knows_moved c.args.pass.now c.begin_all-begun.new.pass [] c.begin_all-begun.ensures.begins.divided.moved c.requires.knows)

pub returns-clause-transcript : goal.returns-clause-transcript
returns-clause-transcript g c = c.settle_after-ended.ensures.transcript (c.edit_to_the_end-edited.ensures.transcript (c.begin_all-begun.ensures.begins.divided.transcript c.requires.transcript))

pub returns-clause-begun : goal.returns-clause-begun
returns-clause-begun g c =
    on_ok c.settle_after-ended.result
    (λ f none. c.finish_all.ensures.begun ∙ f none)
    (begun_all _ c.begin_all-begun.new.crew.gathered c.finish_all.new.crew.gathered c.begin_all-begun.result c.edit_to_the_end-edited.result c.settle_after-ended.result _ _ _ _
    c.begin_all-begun.ensures.begun c.edit_to_the_end-edited.ensures.begun c.settle_after-ended.ensures.well c.finish_all.ensures.gathers)

pub returns-clause-finds : goal.returns-clause-finds
returns-clause-finds g c =
    finds_all c.new-crew.result.gathered c.begin_all-begun.new.crew.gathered c.finish_all.new.crew.gathered c.settle_after-ended.result _ _ _ _ _ _
    c.new-crew.ensures.well.1 c.begin_all-begun.ensures.begins.gathers c.finish_all.ensures.gathers
    (λ e. c.begin_all-begun.ensures.failed (c.edit_to_the_end-edited.ensures.fault
    (edited_fault c.edit_to_the_end-edited.new.pass c.settle_after-ended.new.pass c.edit_to_the_end-edited.result c.settle_after-ended.result c.settle_after-ended.ensures.cause e)))

pub returns-clause-ends : goal.returns-clause-ends
returns-clause-ends g c =
    ends_all _ _ _ _ _ c.new-crew.ensures.no_ends c.begin_all-begun.ensures.begins.ends c.finish_all.ensures.ends

pub returns-clause-stops : goal.returns-clause-stops
returns-clause-stops g c = λ well. c.finish_all.ensures.unasked.1 ∙ c.begin_all-begun.ensures.begins.stops well

pub returns-clause-goes : goal.returns-clause-goes
returns-clause-goes g c =
    on_ok c.settle_after-ended.result (λ goes. c.finish_all.ensures.unasked.0 ∙ goes)
    (goes_all _ c.begin_all-begun.result c.edit_to_the_end-edited.result c.settle_after-ended.result
    (on_ok c.begin_all-begun.result (λ all. all.goes) c.begin_all-begun.ensures.all) c.edit_to_the_end-edited.ensures.begun c.settle_after-ended.ensures.well)

pub returns-clause-tree_fault : goal.returns-clause-tree_fault
returns-clause-tree_fault g c = λ e.
    c.edit_to_the_end-edited.ensures.tree_fault (edited_tree c.edit_to_the_end-edited.new.pass c.settle_after-ended.new.pass c.edit_to_the_end-edited.result c.settle_after-ended.result c.settle_after-ended.ensures.cause e)
