use Rattle.std.proofs.Common.{[], ap, sym, ◌∙◌, subst}
use Rattle.std.proofs.lemmas.Result.{err_from_is_err_and}
use Rattle.std.specs.Prelude.{Err}
use Rattle.hub_editor.specs.Edits.{edits_in}
use Rattle.hub_editor.specs.Editing.{Edited}
use Rattle.folder_edits.specs.Causes.{IsWorkCause}
use Rattle.folder_edits.specs.Stops.{stop_by}
use Rattle.folder_edits.specs.Rounds.{MakesEdits}
use Rattle.folder_edits.proofs.Causes.{begun_work, edits_work, fault_of_begun, no_fault, passed, tree_of_begun}
use Rattle.folder_edits.proofs.Makings.{makes_nothing}
use Rattle.folder_edits.proofs.working.edit_all.Goals as goal

pub returns-in_err-begun-clause-edited : goal.returns-in_err-begun-clause-edited
returns-in_err-begun-clause-edited g c = λ p x. subst (λ ms. Edited p c.args.pass.now ms) (sym c.requires.none) x

pub returns-in_err-begun-clause-makes : goal.returns-in_err-begun-clause-makes
returns-in_err-begun-clause-makes g c =
    let told = err_from_is_err_and c.from_residual.result c.from_residual.ensures.1 in
    let cause = c.in_err-begun.field-0.0 in
    subst (λ r. MakesEdits (g.T.Tree.coming c.args.tree.now) c.args.later.listing (edits_in c.args.later.script.items) c.args.later.rounds [] c.args.editing.now.editor.works.items r) (sym (told.1 ∙ ap Err told.2))
    (subst (λ ms. MakesEdits (g.T.Tree.coming c.args.tree.now) c.args.later.listing (edits_in c.args.later.script.items) c.args.later.rounds [] ms (Err (stop_by cause))) (sym c.requires.none)
    (makes_nothing (g.T.Tree.coming c.args.tree.now) c.args.later.listing (edits_in c.args.later.script.items) c.args.later.rounds [] cause))

pub returns-in_err-begun-clause-cause : goal.returns-in_err-begun-clause-cause
returns-in_err-begun-clause-cause g c =
    let cause = c.in_err-begun.field-0.0 in
    passed (IsWorkCause c.args.pass.now) c.from_residual.result (stop_by cause) (err_from_is_err_and c.from_residual.result c.from_residual.ensures.1)
    (begun_work c.args.pass.now cause (λ e. c.requires.spent (c.in_err-begun.was ∙ ap Err e)))

pub returns-in_err-begun-clause-fault : goal.returns-in_err-begun-clause-fault
returns-in_err-begun-clause-fault g c = λ e.
    c.in_err-begun.was ∙ ap Err (fault_of_begun c.from_residual.result c.in_err-begun.field-0.0 (err_from_is_err_and c.from_residual.result c.from_residual.ensures.1) e)

pub returns-in_err-begun-clause-tree_fault : goal.returns-in_err-begun-clause-tree_fault
returns-in_err-begun-clause-tree_fault g c = tree_of_begun c.from_residual.result c.in_err-begun.field-0.0 (err_from_is_err_and c.from_residual.result c.from_residual.ensures.1)

pub returns-clause-edited : goal.returns-clause-edited
returns-clause-edited g c = λ p x. c.make_edits.ensures.edited p (subst (λ ms. Edited p c.args.pass.now ms) (sym c.requires.none) x)

pub returns-clause-makes : goal.returns-clause-makes
returns-clause-makes g c =
    subst (λ ms. MakesEdits (g.T.Tree.coming c.args.tree.now) c.args.later.listing (edits_in c.args.later.script.items) c.args.later.rounds ms c.make_edits.new.editing.editor.works.items c.make_edits.result) c.requires.none c.make_edits.ensures.makes

pub returns-clause-cause : goal.returns-clause-cause
returns-clause-cause g c = edits_work c.make_edits.new.pass c.make_edits.result c.make_edits.ensures.cause

pub returns-clause-fault : goal.returns-clause-fault
returns-clause-fault g c = λ e. absurd (no_fault c.make_edits.new.pass c.make_edits.result c.make_edits.ensures.cause e)
