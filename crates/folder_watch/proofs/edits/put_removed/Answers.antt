use Rattle.std.proofs.Common.{rules, ◌≡◌, ◌∷◌, List, ℕ, true, false, Some, None, subst, cond, ◌∙◌}
use Rattle.std.specs.Prelude.{All, is_some}
use Rattle.hmr_types.specs.ModName.{is_text}
use Rattle.folders.specs.Files.{text_at}
use Rattle.folder_watch.specs.Edits.{change, change_to, edit_at, rows_of}
use Rattle.folder_watch.proofs.Looking.{all_held}
use Rattle.folder_watch.proofs.Editing.{going_none, going_put, going_same, row_held, removed_put, kept_same}
use Rattle.folder_watch.proofs.edits.put_removed.Goals as goal

pub loop-name-init : goal.loop-name-init
loop-name-init c =
    let gives = c.into_iter-name-iterator.ensures.into_iter_gives in
    record {
      going = going_none (λ name. change (text_at c.args.old.now name) (text_at c.args.new.now name)) (λ name. change_to (text_at c.args.old.now name) (text_at c.args.new.now name)) c.args.old.now c.into_iter-name-iterator.result (rows_of c.args.edits.now.entries)
          (gives.0 ∙ c.files-name-items.ensures) c.requires.changed;
      held = subst (λ rows. All (λ row. text_at rows row.0 ≡ Some row.1) rows) c.files-name-items.ensures (all_held c.files-name-items.result.now.entries gives.6);
    }

pub loop-name-preserved-in_ok-put : goal.loop-name-preserved-in_ok-put
loop-name-preserved-in_ok-put c =
    let at = c.loop-name in
    let name = c.in-Some.name.now in
    let text = c.in-Some.field-0-1.now in
    let e : at.name-iterator ≡ (name, text) ∷ c.next.new.self = search rules in
    let held : text_at c.args.old.now name ≡ Some text = row_held c.args.old.now c.args.old.now at.name-iterator c.next.new.self (name, text) at.invariant.going.done at.invariant.going.whole e at.invariant.held in
    let none : is_some (text_at c.args.new.now name) ≡ false = search rules in
    let put : (other : List ℕ) → edit_at (rows_of c.put.new.edits.entries) other ≡ cond (is_text name other) (Some None) (edit_at (rows_of at.edits.entries) other) = search rules in
    record {
      going = going_put (λ name. change (text_at c.args.old.now name) (text_at c.args.new.now name)) (λ name. change_to (text_at c.args.old.now name) (text_at c.args.new.now name)) c.args.old.now at.name-iterator c.next.new.self (name, text) None (rows_of at.edits.entries) (rows_of c.put.new.edits.entries)
          e (removed_put (text_at c.args.old.now name) (text_at c.args.new.now name) text held none) put at.invariant.going;
      held = at.invariant.held;
    }

pub loop-name-preserved : goal.loop-name-preserved
loop-name-preserved c =
    let at = c.loop-name in
    let name = c.in-Some.name.now in
    let text = c.in-Some.field-0-1.now in
    let e : at.name-iterator ≡ (name, text) ∷ c.next.new.self = search rules in
    let held : text_at c.args.old.now name ≡ Some text = row_held c.args.old.now c.args.old.now at.name-iterator c.next.new.self (name, text) at.invariant.going.done at.invariant.going.whole e at.invariant.held in
    let some : is_some (text_at c.args.new.now name) ≡ true = search rules in
    record {
      going = going_same (λ name. change (text_at c.args.old.now name) (text_at c.args.new.now name)) (λ name. change_to (text_at c.args.old.now name) (text_at c.args.new.now name)) c.args.old.now at.name-iterator c.next.new.self (name, text) (rows_of at.edits.entries)
          e (kept_same (text_at c.args.old.now name) (text_at c.args.new.now name) some) at.invariant.going;
      held = at.invariant.held;
    }
