use Rattle.std.proofs.Common.{rules, ◌≡◌, ◌∷◌, List, ℕ, true, false, Some, None, ap, subst, cond, ◌∙◌}
use Rattle.std.specs.Prelude.{All, is_some}
use Rattle.hmr_types.specs.ModName.{is_text}
use Rattle.folders.specs.Files.{text_at}
use Rattle.folder_watch.specs.Edits.{change_to, edit_at, rows_of}
use Rattle.folder_watch.proofs.Looking.{all_held}
use Rattle.folder_watch.proofs.Editing.{going_none, going_put, going_same, row_held, differs_put, same_none}
use Rattle.folder_watch.proofs.edits.put_changed.Goals as goal

pub loop-name-init : goal.loop-name-init
loop-name-init c =
    let gives = c.into_iter-name-iterator.ensures.into_iter_gives in
    record {
      going = going_none (λ name. change_to (text_at c.args.old.now name) (text_at c.args.new.now name)) (λ name. None) c.args.new.now c.into_iter-name-iterator.result (rows_of c.args.edits.now.entries)
          (gives.0 ∙ c.files-name-items.ensures) (λ name. ap (λ es. edit_at (rows_of es) name) c.requires.none);
      held = subst (λ rows. All (λ row. text_at rows row.0 ≡ Some row.1) rows) c.files-name-items.ensures (all_held c.files-name-items.result.now.entries gives.6);
    }

pub loop-name-preserved-in_ok-put : goal.loop-name-preserved-in_ok-put
loop-name-preserved-in_ok-put c =
    let at = c.loop-name in
    let name = c.in-Some.name.now in
    let text = c.in-Some.text.now in
    let e : at.name-iterator ≡ (name, text) ∷ c.next.new.self = search rules in
    let held : text_at c.args.new.now name ≡ Some text = row_held c.args.new.now c.args.new.now at.name-iterator c.next.new.self (name, text) at.invariant.going.done at.invariant.going.whole e at.invariant.held in
    let differs : is_some (change_to (text_at c.args.old.now name) (Some text)) ≡ true = search rules in
    let put : (other : List ℕ) → edit_at (rows_of c.put.new.edits.entries) other ≡ cond (is_text name other) (Some (Some text)) (edit_at (rows_of at.edits.entries) other) = search rules in
    record {
      going = going_put (λ name. change_to (text_at c.args.old.now name) (text_at c.args.new.now name)) (λ name. None) c.args.new.now at.name-iterator c.next.new.self (name, text) (Some text) (rows_of at.edits.entries) (rows_of c.put.new.edits.entries)
          e (ap (change_to (text_at c.args.old.now name)) held ∙ differs_put (text_at c.args.old.now name) text differs) put at.invariant.going;
      held = at.invariant.held;
    }

pub loop-name-preserved : goal.loop-name-preserved
loop-name-preserved c =
    let at = c.loop-name in
    let name = c.in-Some.name.now in
    let text = c.in-Some.text.now in
    let e : at.name-iterator ≡ (name, text) ∷ c.next.new.self = search rules in
    let held : text_at c.args.new.now name ≡ Some text = row_held c.args.new.now c.args.new.now at.name-iterator c.next.new.self (name, text) at.invariant.going.done at.invariant.going.whole e at.invariant.held in
    let same : is_some (change_to (text_at c.args.old.now name) (Some text)) ≡ false = search rules in
    record {
      going = going_same (λ name. change_to (text_at c.args.old.now name) (text_at c.args.new.now name)) (λ name. None) c.args.new.now at.name-iterator c.next.new.self (name, text) (rows_of at.edits.entries)
          e (ap (change_to (text_at c.args.old.now name)) held ∙ same_none (text_at c.args.old.now name) text same) at.invariant.going;
      held = at.invariant.held;
    }
