-- What a map finds by a name, in the words of texts.
use Rattle.std.proofs.Common.{get_or, ℕ, List, [], ◌∷◌, ◌++◌, Bool, true, false, cond, ◌≡◌, refl, sym, ap, ◌∙◌, Option, Some, None}
use Rattle.std.specs.Prelude.{◌||◌, is_some, All}
use Rattle.std.specs.BTreeMap.{is_at}
use Rattle.std.specs.Cmp.Lexicographic.{slice_cmp, texts_ties, other_text}
use Rattle.std.specs.Global.{Vec}
use Rattle.std.specs.Map.{lookup}
use Rattle.std.specs.Option.{option_map}
use Rattle.std.specs.Ordering.{nat_cmp}
use Rattle.hmr_types.specs.ModName.{is_text}
use Rattle.folders.specs.Files.{text_at}
use Rattle.folder_watch.specs.Edits.{edit_at, rows_of}

-- the tests of a map's keys are the tests of texts
pub key_is : (name other : List ℕ) → is_at (slice_cmp nat_cmp name) other ≡ is_text name other
key_is name other = sym (texts_ties name other)

pub text_self : (p : List ℕ) → is_text p p ≡ true
text_self p = by (is_text p p) refl
  where
    by : (t : Bool) → is_text p p ≡ t → t ≡ true
    by true e = refl
    by false e = absurd (other_text p p (sym e) refl)

found_turn : {X : Type 0} (s t : Bool) (x : X) (a b : Option X) → s ≡ t → a ≡ b → cond s (Some x) a ≡ cond t (Some x) b
found_turn true t x a b e f = ap (λ u. cond u (Some x) b) e
found_turn false t x a b e f = f ∙ ap (λ u. cond u (Some x) b) e

-- the text of a name in a map
pub text_found : (rows : List (List ℕ × List ℕ)) (name : List ℕ) → text_at rows name ≡ lookup (is_at (slice_cmp nat_cmp name)) rows
text_found [] name = refl
text_found (row ∷ rows) name = found_turn (is_text name row.0) (is_at (slice_cmp nat_cmp name) row.0) row.1 (text_at rows name) (lookup (is_at (slice_cmp nat_cmp name)) rows) (sym (key_is name row.0)) (text_found rows name)

cond_same : {X : Type 0} (s t : Bool) (x y : Option X) → s ≡ t → cond s x y ≡ cond t x y
cond_same s t x y e = ap (λ u. cond u x y) e

-- a text that was put into a map
pub text_added : (name text : List ℕ) (old new : List (List ℕ × List ℕ))
    → ((other : List ℕ) → lookup (is_at (slice_cmp nat_cmp other)) new ≡ cond (is_at (slice_cmp nat_cmp name) other) (Some text) (lookup (is_at (slice_cmp nat_cmp other)) old))
    → (other : List ℕ) → text_at new other ≡ cond (is_text name other) (Some text) (text_at old other)
text_added name text old new h other = text_found new other ∙ h other ∙ ap (λ o. cond (is_at (slice_cmp nat_cmp name) other) (Some text) o) (sym (text_found old other)) ∙ cond_same _ _ (Some text) (text_at old other) (key_is name other)

abbrev Edits : Type 0
Edits = List (List ℕ × Option (Vec ℕ))

plain : Option (Vec ℕ) → Option (List ℕ)
plain edit = option_map (λ text. text.items) edit

edit_turn : (s t : Bool) (x : Option (Vec ℕ)) (a : Option (Option (List ℕ))) (b : Option (Option (Vec ℕ))) → s ≡ t → a ≡ option_map (λ e. option_map (λ text. text.items) e) b
    → cond s (Some (option_map (λ text. text.items) x)) a ≡ option_map (λ e. option_map (λ text. text.items) e) (cond t (Some x) b)
edit_turn true true x a b e f = refl
edit_turn true false x a b e f = absurd (cc)
edit_turn false true x a b e f = absurd (cc)
edit_turn false false x a b e f = f

-- the edit of a name in a map
pub edit_found : (edits : Edits) (name : List ℕ) → edit_at (rows_of edits) name ≡ option_map (λ e. option_map (λ text. text.items) e) (lookup (is_at (slice_cmp nat_cmp name)) edits)
edit_found [] name = refl
edit_found (row ∷ rows) name = edit_turn (is_text name row.0) (is_at (slice_cmp nat_cmp name) row.0) row.1 (edit_at (rows_of rows) name) (lookup (is_at (slice_cmp nat_cmp name)) rows) (sym (key_is name row.0)) (edit_found rows name)

-- an edit that was put into a map
pub edit_added : (name : List ℕ) (edit : Option (Vec ℕ)) (old new : Edits)
    → ((other : List ℕ) → lookup (is_at (slice_cmp nat_cmp other)) new ≡ cond (is_at (slice_cmp nat_cmp name) other) (Some edit) (lookup (is_at (slice_cmp nat_cmp other)) old))
    → (other : List ℕ) → edit_at (rows_of new) other ≡ cond (is_text name other) (Some (option_map (λ text. text.items) edit)) (edit_at (rows_of old) other)
edit_added name edit old new h other = edit_found new other ∙ ap (λ o. option_map (λ e. option_map (λ text. text.items) e) o) (h other)
    ∙ sym (edit_turn (is_text name other) (is_at (slice_cmp nat_cmp name) other) edit (edit_at (rows_of old) other) (lookup (is_at (slice_cmp nat_cmp other)) old) (sym (key_is name other)) (edit_found old other))

more_turn : (found is : Bool) (text : List ℕ) (a b : Option (List ℕ)) → is_some a ≡ (is_some b || is) → is_some (cond found (Some text) a) ≡ (is_some (cond found (Some text) b) || is)
more_turn true is text a b h = refl
more_turn false is text a b h = h

more_last : (is : Bool) (text : List ℕ) → is_some (cond is (Some text) None) ≡ is
more_last true text = refl
more_last false text = refl

-- one more file
pub text_more : (files : List (List ℕ × List ℕ)) (row : List ℕ × List ℕ) (p : List ℕ) → is_some (text_at (files ++ row ∷ []) p) ≡ (is_some (text_at files p) || is_text p row.0)
text_more [] row p = more_last (is_text p row.0) row.1
text_more (f ∷ files) row p = more_turn (is_text p f.0) (is_text p row.0) f.1 (text_at (files ++ row ∷ []) p) (text_at files p) (text_more files row p)

-- each row of a map holds what the map has at its name
pub all_held : (rows : List (List ℕ × List ℕ)) → All (λ e. lookup (is_at (slice_cmp nat_cmp e.0)) rows ≡ Some e.1) rows → All (λ row. text_at rows row.0 ≡ Some row.1) rows
all_held rows h k d lt = text_found rows (get_or rows k d).0 ∙ h k d lt
