use Rattle.std.proofs.Common.{ap, sym, ◌∙◌, subst}
use Rattle.std.specs.Prelude.{Err}
use Rattle.std.proofs.lemmas.Result.{err_from_is_err_and}
use Rattle.hub_editor.specs.Edits.{edits_in}
use Rattle.hub_editor.proofs.Calls.{knower_then}
use Rattle.folder_edits.specs.Causes.{IsEditCause}
use Rattle.folder_edits.specs.Rounds.{MakesEdits}
use Rattle.folder_edits.specs.Stops.{stop_of_edit}
use Rattle.folder_edits.proofs.Causes.{edit_cause, passed, tree_of_edit}
use Rattle.folder_edits.proofs.Makings.{script_made, script_stopped, script_stops}
use Rattle.folder_edits.proofs.rounds.make_edits.Goals as goal

pub returns-in_err-edit_rounds-clause-makes : goal.returns-in_err-edit_rounds-clause-makes
returns-in_err-edit_rounds-clause-makes g c =
    let told = err_from_is_err_and c.from_residual.result c.from_residual.ensures.1 in
    subst (λ r. MakesEdits (g.T.Tree.coming c.args.tree.now) c.args.later.listing (edits_in c.args.later.script.items) c.args.later.rounds c.args.editing.now.editor.works.items c.edit_rounds.new.editing.editor.works.items r) (sym (told.1 ∙ ap Err told.2))
    (script_stopped (g.T.Tree.coming c.args.tree.now) c.args.later.listing (edits_in c.args.later.script.items) c.args.later.rounds c.args.editing.now.editor.works.items c.edit_rounds.new.editing.editor.works.items
    c.in_err-edit_rounds.field-0.0 c.in_err-edit_rounds.ensures.makes)

pub returns-in_err-edit_each-clause-same : goal.returns-in_err-edit_each-clause-same
returns-in_err-edit_each-clause-same g c = knower_then c.args.pass.now c.edit_rounds.new.pass c.edit_each.new.pass c.edit_rounds.ensures.same c.edit_each.ensures.same

pub returns-in_err-edit_each-clause-edited : goal.returns-in_err-edit_each-clause-edited
returns-in_err-edit_each-clause-edited g c = λ p x. c.edit_each.ensures.edited p (c.edit_rounds.ensures.edited p x)

pub returns-in_err-edit_each-clause-makes : goal.returns-in_err-edit_each-clause-makes
returns-in_err-edit_each-clause-makes g c =
    let told = err_from_is_err_and c.from_residual-in_err-edit_each.result c.from_residual-in_err-edit_each.ensures.1 in
    subst (λ r. MakesEdits (g.T.Tree.coming c.args.tree.now) c.args.later.listing (edits_in c.args.later.script.items) c.args.later.rounds c.args.editing.now.editor.works.items c.edit_each.new.editing.editor.works.items r) (sym (told.1 ∙ ap Err told.2))
    (script_stops (g.T.Tree.coming c.args.tree.now) c.args.later.listing (edits_in c.args.later.script.items) c.args.later.rounds c.args.editing.now.editor.works.items c.edit_rounds.new.editing.editor.works.items c.edit_each.new.editing.editor.works.items
    c.in_err-edit_each.field-0.0 c.in_ok-edit_rounds.ensures.makes c.in_err-edit_each.ensures.makes)

pub returns-in_err-edit_each-clause-cause : goal.returns-in_err-edit_each-clause-cause
returns-in_err-edit_each-clause-cause g c =
    let stop = c.in_err-edit_each.field-0.0 in
    passed (IsEditCause c.edit_each.new.pass) c.from_residual-in_err-edit_each.result (stop_of_edit stop) (err_from_is_err_and c.from_residual-in_err-edit_each.result c.from_residual-in_err-edit_each.ensures.1)
    (edit_cause c.edit_each.new.pass stop c.in_err-edit_each.ensures.cause)

pub returns-in_err-edit_each-clause-tree_fault : goal.returns-in_err-edit_each-clause-tree_fault
returns-in_err-edit_each-clause-tree_fault g c = tree_of_edit c.from_residual-in_err-edit_each.result c.in_err-edit_each.field-0.0 (err_from_is_err_and c.from_residual-in_err-edit_each.result c.from_residual-in_err-edit_each.ensures.1)

pub returns-clause-same : goal.returns-clause-same
returns-clause-same g c = knower_then c.args.pass.now c.edit_rounds.new.pass c.edit_each.new.pass c.edit_rounds.ensures.same c.edit_each.ensures.same

pub returns-clause-edited : goal.returns-clause-edited
returns-clause-edited g c = λ p x. c.edit_each.ensures.edited p (c.edit_rounds.ensures.edited p x)

pub returns-clause-makes : goal.returns-clause-makes
returns-clause-makes g c =
    script_made (g.T.Tree.coming c.args.tree.now) c.args.later.listing (edits_in c.args.later.script.items) c.args.later.rounds c.args.editing.now.editor.works.items c.edit_rounds.new.editing.editor.works.items c.edit_each.new.editing.editor.works.items
    c.in_ok-edit_rounds.ensures.makes c.in_ok-edit_each.ensures.makes
