use Rattle.std.proofs.Common.{[], ap, sym, ◌∙◌, subst}
use Rattle.std.specs.Prelude.{Ok, Err, IfErr}
use Rattle.std.proofs.lemmas.Result.{err_from_is_err_and}
use Rattle.hub_editor.specs.Edits.{edits_in}
use Rattle.folder_edits.specs.Causes.{IsWorkCause}
use Rattle.folder_edits.specs.Rounds.{MakesEdits}
use Rattle.folder_edits.specs.Stops.{stop_of_edit}
use Rattle.folder_edits.proofs.Causes.{edit_cause, edit_work, passed}
use Rattle.folder_edits.proofs.Makings.{makes_room, makes_same}
use Rattle.folder_edits.proofs.working.edit_to_the_end.Goals as goal

pub returns-in-Err-clause-makes : goal.returns-in-Err-clause-makes
returns-in-Err-clause-makes g c = subst (λ r. MakesEdits (g.T.Tree.coming c.args.tree.now) c.args.later.listing (edits_in c.args.later.script.items) c.args.later.rounds [] c.edit_all-edited.new.editing.editor.works.items r) c.in-Err.is c.edit_all-edited.ensures.makes

pub returns-in-Err-clause-cause : goal.returns-in-Err-clause-cause
returns-in-Err-clause-cause g c = subst (λ r. IfErr r (IsWorkCause c.edit_all-edited.new.pass)) c.in-Err.is c.edit_all-edited.ensures.cause

pub returns-in_err-close-in-Ok-clause-makes : goal.returns-in_err-close-in-Ok-clause-makes
returns-in_err-close-in-Ok-clause-makes g c =
    let told = err_from_is_err_and c.from_residual.result c.from_residual.ensures.1 in
    let coming = g.T.Tree.coming c.args.tree.now in
    let script = edits_in c.args.later.script.items in
    let old = c.edit_all-edited.new.editing.editor.works.items in
    let new = c.close.new.self.works.items in
    let made : MakesEdits coming c.args.later.listing script c.args.later.rounds [] old (Ok tt) = subst (λ r. MakesEdits coming c.args.later.listing script c.args.later.rounds [] old r) c.in-Ok.is c.edit_all-edited.ensures.makes in
    subst (λ r. MakesEdits coming c.args.later.listing script c.args.later.rounds [] new r) (sym (told.1 ∙ ap Err told.2))
    (makes_room coming c.args.later.listing script c.args.later.rounds [] new c.in_err-close-in-Ok.field-0.0 (makes_same coming c.args.later.listing script c.args.later.rounds [] old new (Ok tt) made c.close.ensures.edits)
    c.in_err-close-in-Ok.ensures.room)

pub returns-in_err-close-in-Ok-clause-cause : goal.returns-in_err-close-in-Ok-clause-cause
returns-in_err-close-in-Ok-clause-cause g c =
    let stop = c.in_err-close-in-Ok.field-0.0 in
    passed (IsWorkCause c.close.new.pass) c.from_residual.result (stop_of_edit stop) (err_from_is_err_and c.from_residual.result c.from_residual.ensures.1)
    (edit_work c.close.new.pass (stop_of_edit stop) (edit_cause c.close.new.pass stop c.in_err-close-in-Ok.ensures.cause))

pub returns-in_ok-close-in-Ok-clause-makes : goal.returns-in_ok-close-in-Ok-clause-makes
returns-in_ok-close-in-Ok-clause-makes g c =
    let coming = g.T.Tree.coming c.args.tree.now in
    let script = edits_in c.args.later.script.items in
    let old = c.edit_all-edited.new.editing.editor.works.items in
    makes_same coming c.args.later.listing script c.args.later.rounds [] old c.close.new.self.works.items (Ok tt)
    (subst (λ r. MakesEdits coming c.args.later.listing script c.args.later.rounds [] old r) c.in-Ok.is c.edit_all-edited.ensures.makes) c.close.ensures.edits
