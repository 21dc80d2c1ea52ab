-- The edits between two listings.
use Rattle.std.specs.Prelude.{◌≡◌, ℕ, List, map, cond, Option, Some, None}
use Rattle.std.specs.Global.{Vec}
use Rattle.std.specs.Map.{lookup}
use Rattle.std.specs.Option.{option_map}
use Rattle.hmr_types.specs.ModName.{is_text}
use Rattle.folders.specs.Files.{text_at}

-- what an edit makes of a text that there was and one that there is: nothing where they are the same, else
-- the text that there is, or its removal
abbrev pub change : Option (List ℕ) → Option (List ℕ) → Option (Option (List ℕ))
change None None = None
change None (Some new) = Some (Some new)
change (Some old) None = Some None
change (Some old) (Some new) = cond (is_text old new) None (Some (Some new))

-- the same of the names that there are
abbrev pub change_to : Option (List ℕ) → Option (List ℕ) → Option (Option (List ℕ))
change_to old None = None
change_to None (Some new) = Some (Some new)
change_to (Some old) (Some new) = cond (is_text old new) None (Some (Some new))

-- edits as plain lists
abbrev pub rows_of : List (List ℕ × Option (Vec ℕ)) → List (List ℕ × Option (List ℕ))
rows_of edits = map (λ edit. (edit.0, option_map (λ text. text.items) edit.1)) edits

-- the edit of a name
abbrev pub edit_at : List (List ℕ × Option (List ℕ)) → List ℕ → Option (Option (List ℕ))
edit_at edits name = lookup (is_text name) edits

-- each name that changed has its edit, and no other has one
abbrev pub AreEdits : List (List ℕ × List ℕ) → List (List ℕ × List ℕ) → List (List ℕ × Option (List ℕ))
    → Type 0
AreEdits old new edits = (name : List ℕ) → edit_at edits name ≡ change (text_at old name) (text_at new name)

-- the text of a name after an edit, where there is one
abbrev pub edited : Option (Option (List ℕ)) → Option (List ℕ) → Option (List ℕ)
edited None text = text
edited (Some now) text = now
