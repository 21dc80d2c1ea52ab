-- How the edits between two listings grow, name by name.
use Rattle.std.proofs.Common.{ℕ, ◌+◌, length, get_or, subst, append_assoc, append-nil, arith, List, [], ◌∷◌, ◌++◌, Bool, true, false, cond, ◌≡◌, refl, sym, ap, ◌∙◌, Option, Some, None}
use Rattle.std.specs.Prelude.{◌||◌, is_some, All}
use Rattle.std.proofs.lemmas.Grind.{common_steps}
use Rattle.std.proofs.lemmas.List.{length-append}
use Rattle.std.specs.Cmp.Lexicographic.{same_text, other_text}
use Rattle.hmr_types.specs.ModName.{is_text}
use Rattle.folders.specs.Files.{text_at}
use Rattle.folder_watch.specs.Edits.{change, change_to, edit_at, edited}
use Rattle.folder_watch.proofs.Looking.{text_more}

abbrev Files : Type 0
Files = List (List ℕ × List ℕ)

abbrev Edits : Type 0
Edits = List (List ℕ × Option (List ℕ))

-- the names so far have the edits that they are to have, and the others those that they had
abbrev pub AreDone : (List ℕ → Option (Option (List ℕ))) → (List ℕ → Option (Option (List ℕ))) → Files → Edits → Type 0
AreDone now was done edits = (name : List ℕ) → edit_at edits name ≡ cond (is_some (text_at done name)) (now name) (was name)

-- a front of the rows is done
pub record IsGoing (now was : List ℕ → Option (Option (List ℕ))) (all rest : Files) (edits : Edits) : Type 0 where
  pub done : Files
  pub whole : done ++ rest ≡ all
  pub are : AreDone now was done edits

text_sym : (p q : List ℕ) (t : Bool) → is_text p q ≡ t → is_text q p ≡ t
text_sym p q true e = by (is_text q p) refl
  where
    by : (u : Bool) → is_text q p ≡ u → u ≡ true
    by true f = refl
    by false f = absurd (other_text q p (sym f) (sym (same_text p q (sym e))))
text_sym p q false e = by (is_text q p) refl
  where
    by : (u : Bool) → is_text q p ≡ u → u ≡ false
    by true f = absurd (other_text p q (sym e) (sym (same_text q p (sym f))))
    by false f = refl

module _ (now was : List ℕ → Option (Option (List ℕ))) (done : Files) (row : List ℕ × List ℕ) where
  put_turn : (name : List ℕ) (edit : Option (List ℕ)) (a b : Option (Option (List ℕ))) (is found more : Bool) → is_text row.0 name ≡ is → more ≡ (found || is)
      → now row.0 ≡ Some edit → a ≡ cond is (Some edit) b → b ≡ cond found (now name) (was name) → a ≡ cond more (now name) (was name)
  put_turn name edit a b true found more s m n e f = e ∙ sym n ∙ ap now (same_text row.0 name (sym s)) ∙ sym (ap (λ t. cond t (now name) (was name)) (m ∙ by found))
    where
      by : (t : Bool) → (t || true) ≡ true
      by true = refl
      by false = refl
  put_turn name edit a b false found more s m n e f = e ∙ f ∙ sym (ap (λ t. cond t (now name) (was name)) (m ∙ by found))
    where
      by : (t : Bool) → (t || false) ≡ t
      by true = refl
      by false = refl

  -- one more name, whose edit was put
  pub done_put : (edit : Option (List ℕ)) (old new : Edits) → now row.0 ≡ Some edit
      → ((other : List ℕ) → edit_at new other ≡ cond (is_text row.0 other) (Some edit) (edit_at old other))
      → AreDone now was done old → AreDone now was (done ++ row ∷ []) new
  done_put edit old new n put h name =
      put_turn name edit (edit_at new name) (edit_at old name) (is_text row.0 name) (is_some (text_at done name)) (is_some (text_at (done ++ row ∷ []) name)) refl
      (text_more done row name ∙ ap (λ t. is_some (text_at done name) || t) (text_sym row.0 name (is_text row.0 name) refl)) n (put name) (h name)

  same_turn : (name : List ℕ) (a : Option (Option (List ℕ))) (is found more : Bool) → is_text row.0 name ≡ is → more ≡ (found || is)
      → now row.0 ≡ was row.0 → a ≡ cond found (now name) (was name) → a ≡ cond more (now name) (was name)
  same_turn name a is true more s m n e = e ∙ sym (ap (λ t. cond t (now name) (was name)) m)
  same_turn name a true false more s m n e = e ∙ ap was (sym (same_text row.0 name (sym s))) ∙ sym n ∙ ap now (same_text row.0 name (sym s)) ∙ sym (ap (λ t. cond t (now name) (was name)) m)
  same_turn name a false false more s m n e = e ∙ sym (ap (λ t. cond t (now name) (was name)) m)

  -- one more name, which is to have the edit that it had
  pub done_same : (edits : Edits) → now row.0 ≡ was row.0 → AreDone now was done edits → AreDone now was (done ++ row ∷ []) edits
  done_same edits n h name =
      same_turn name (edit_at edits name) (is_text row.0 name) (is_some (text_at done name)) (is_some (text_at (done ++ row ∷ []) name)) refl
      (text_more done row name ∙ ap (λ t. is_some (text_at done name) || t) (text_sym row.0 name (is_text row.0 name) refl)) n (h name)

-- all names of the new listing
pub changed_all : (old new : Option (List ℕ)) → cond (is_some new) (change_to old new) None ≡ change_to old new
changed_all old None = refl
changed_all old (Some text) = refl

-- and all of the old
pub removed_all : (old new : Option (List ℕ)) → cond (is_some old) (change old new) (change_to old new) ≡ change old new
removed_all None None = refl
removed_all None (Some text) = refl
removed_all (Some text) new = refl

changes_to : (old : Option (List ℕ)) (new : List ℕ) (t : Bool) → is_some (change_to old (Some new)) ≡ t → t ≡ true → change_to old (Some new) ≡ Some (Some new)
changes_to None new t e f = refl
changes_to (Some old) new t e f = by (is_text old new) (e ∙ f)
  where
    by : (u : Bool) → is_some (cond u None (Some (Some new))) ≡ true → cond u None (Some (Some new)) ≡ Some (Some new)
    by true g = absurd (cc)
    by false g = refl

-- a text that differs is the edit
pub differs_put : (old : Option (List ℕ)) (new : List ℕ) → is_some (change_to old (Some new)) ≡ true → change_to old (Some new) ≡ Some (Some new)
differs_put old new h = changes_to old new true h refl

-- and one that doesn't needs none
pub same_none : (old : Option (List ℕ)) (new : List ℕ) → is_some (change_to old (Some new)) ≡ false → change_to old (Some new) ≡ None
same_none old new h = by (change_to old (Some new)) h
  where
    by : (o : Option (Option (List ℕ))) → is_some o ≡ false → o ≡ None
    by None g = refl
    by (Some x) g = absurd (cc)

-- a name that is gone has its removal
pub removed_put : (old new : Option (List ℕ)) (text : List ℕ) → old ≡ Some text → is_some new ≡ false → change old new ≡ Some None
removed_put None new text h n = absurd (cc)
removed_put (Some old) None text h n = refl
removed_put (Some old) (Some new) text h n = absurd (cc)

-- and one that is there the edit that it had
pub kept_same : (old new : Option (List ℕ)) → is_some new ≡ true → change old new ≡ change_to old new
kept_same old None h = absurd (cc)
kept_same None (Some new) h = refl
kept_same (Some old) (Some new) h = refl

becomes_turn : (old new : List ℕ) (t : Bool) → is_text old new ≡ t → edited (cond t None (Some (Some new))) (Some old) ≡ Some new
becomes_turn old new true e = ap Some (same_text old new (sym e))
becomes_turn old new false e = refl

-- an edit makes the text that there was the one that there is
pub becomes : (old new : Option (List ℕ)) → edited (change old new) old ≡ new
becomes None None = refl
becomes None (Some new) = refl
becomes (Some old) None = refl
becomes (Some old) (Some new) = becomes_turn old new (is_text old new) refl

-- The steps of the loops over the rows.

module _ (now was : List ℕ → Option (Option (List ℕ))) (all : Files) where
  moved : (done rest next : Files) (row : List ℕ × List ℕ) → rest ≡ row ∷ next → done ++ rest ≡ all → (done ++ row ∷ []) ++ next ≡ all
  moved done rest next row e w = append_assoc done (row ∷ []) next ∙ ap (λ l. done ++ l) (sym e) ∙ w

  pub going_none : (rest : Files) (edits : Edits) → rest ≡ all → ((name : List ℕ) → edit_at edits name ≡ was name) → IsGoing now was all rest edits
  going_none rest edits e h = record { done = []; whole = e; are = h }

  pub going_put : (rest next : Files) (row : List ℕ × List ℕ) (edit : Option (List ℕ)) (old new : Edits) → rest ≡ row ∷ next → now row.0 ≡ Some edit
      → ((other : List ℕ) → edit_at new other ≡ cond (is_text row.0 other) (Some edit) (edit_at old other)) → IsGoing now was all rest old → IsGoing now was all next new
  going_put rest next row edit old new e n put g = record {
    done = g.done ++ row ∷ [];
    whole = moved g.done rest next row e g.whole;
    are = done_put now was g.done row edit old new n put g.are;
  }

  pub going_same : (rest next : Files) (row : List ℕ × List ℕ) (edits : Edits) → rest ≡ row ∷ next → now row.0 ≡ was row.0 → IsGoing now was all rest edits → IsGoing now was all next edits
  going_same rest next row edits e n g = record {
    done = g.done ++ row ∷ [];
    whole = moved g.done rest next row e g.whole;
    are = done_same now was g.done row edits n g.are;
  }

  pub going_all : (rest : Files) (edits : Edits) → rest ≡ [] → IsGoing now was all rest edits → AreDone now was all edits
  going_all rest edits e g =
      subst (λ done. AreDone now was done edits) (sym (append-nil g.done) ∙ ap (λ l. g.done ++ l) (sym e) ∙ g.whole) g.are

-- a row of the rest is a row of all, and its text is the name's
pub row_held : (all held rest next : Files) (row : List ℕ × List ℕ) (done : Files) → done ++ rest ≡ held → rest ≡ row ∷ next → All (λ r. text_at all r.0 ≡ Some r.1) held → text_at all row.0 ≡ Some row.1
row_held all held rest next row done w e h =
    let at : held ≡ done ++ row ∷ next = sym w ∙ ap (λ l. done ++ l) e in
    subst (λ r. text_at all r.0 ≡ Some r.1) (ap (λ l. get_or l (length done) row) at ∙ get_or_seam done row next) (h (length done) row (let n : length held ≡ length done + length (row ∷ next) = ap length at ∙ length-append done (row ∷ next) in omega (arith, n)))
  where
    get_or_seam : (done : Files) (row : List ℕ × List ℕ) (next : Files) → get_or (done ++ row ∷ next) (length done) row ≡ row
    get_or_seam done row next = grind (arith, common_steps)
