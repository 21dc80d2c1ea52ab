-- The last counted edit of a name among those that were made.
use Rattle.std.proofs.Common.{◌≡◌, ◌⊎◌, inl, inr, ℕ, Bool, true, false, List, [], ◌∷◌, ◌++◌, map, refl, ap, sym, ◌∙◌}
use Rattle.std.specs.Prelude.{All, Option, Some, None, Ok, Err, if◌then◌else◌}
use Rattle.std.proofs.lemmas.List.Elements.{All-head, All-tail}
use Rattle.std.proofs.lemmas.Option.{same_Some}
use Rattle.core_model.specs.Names.{Name, same_name}
use Rattle.core_model.specs.Sources.{Text, text_or_none}
use Rattle.core_model.proofs.Naming.{same_true}
use Rattle.version_map.specs.declared.outcome.EditOutcome.TheVariants.{Job, Same, Removed}
use Rattle.hub_editor.specs.Edits.{Answer, Edit, Made, answered_edit, counted_by, edit_of, jobs_from, jobs_of, last_of}
use Rattle.hub_editor.specs.Editing.{SameEdits}

pub last_more : (made more : List Made) (before : Option (ℕ × Text)) (n : Name) → last_of (made ++ more) before n ≡ last_of more (last_of made before n) n
last_more [] more before n = refl
last_more (m ∷ made) more before n = last_more made more (if same_name m.name n then counted_by m.answer m.text before else before) n

-- The edits and answers alone tell it.

abbrev last_by : List (Edit × Answer) → Option (ℕ × Text) → Name → Option (ℕ × Text)
last_by [] before n = before
last_by (x ∷ xs) before n = last_by xs (if same_name x.0.0 n then counted_by x.1 x.0.1 before else before) n

by_edits : (made : List Made) (before : Option (ℕ × Text)) (n : Name) → last_of made before n ≡ last_by (map answered_edit made) before n
by_edits [] before n = refl
by_edits (m ∷ made) before n = by_edits made (if same_name m.name n then counted_by m.answer m.text before else before) n

pub last_same : (old new : List Made) (before : Option (ℕ × Text)) (n : Name) → SameEdits old new → last_of new before n ≡ last_of old before n
last_same old new before n same = by_edits new before n ∙ (ap (λ xs. last_by xs before n) same ∙ sym (by_edits old before n))

pub same_there : (front back : List Made) (m n : Made) → edit_of n ≡ edit_of m → n.answer ≡ m.answer → SameEdits (front ++ m ∷ back) (front ++ n ∷ back)
same_there [] back m n e a = ap (λ (x : Edit). (x, n.answer) ∷ map answered_edit back) e ∙ ap (λ (x : Answer). (edit_of m, x) ∷ map answered_edit back) a
same_there (x ∷ front) back m n e a = ap (λ xs. answered_edit x ∷ xs) (same_there front back m n e a)

-- What a name had before counts only where none of the edits is counted.

abbrev IsEither : Option (ℕ × Text) → Option (ℕ × Text) → Type 0
IsEither a b = (a ≡ b) ⊎ (a ≡ None)

either_counted : (x : Answer) (t : Option Text) (a b : Option (ℕ × Text)) → IsEither a b → IsEither (counted_by x t a) (counted_by x t b)
either_counted (Ok (Job v)) t a b h = inl refl
either_counted (Ok Same) t a b h = h
either_counted (Ok (Removed v)) t a b h = inl refl
either_counted (Err w) t a b h = h

either_if : (c : Bool) (x : Answer) (t : Option Text) (a b : Option (ℕ × Text)) → IsEither a b → IsEither (if c then counted_by x t a else a) (if c then counted_by x t b else b)
either_if true x t a b h = either_counted x t a b h
either_if false x t a b h = h

last_either : (made : List Made) (a b : Option (ℕ × Text)) (n : Name) (s : ℕ × Text) → IsEither a b → last_of made a n ≡ Some s → last_of made b n ≡ Some s
last_either [] a b n s (inl e) h = sym e ∙ h
last_either [] a b n s (inr e) h = let none : None ≡ Some s = sym e ∙ h in cc
last_either (m ∷ made) a b n s h last =
    let c = same_name m.name n in
    last_either made (if c then counted_by m.answer m.text a else a) (if c then counted_by m.answer m.text b else b) n s (either_if c m.answer m.text a b h) last

pub last_anyhow : (made : List Made) (before : Option (ℕ × Text)) (n : Name) (s : ℕ × Text) → last_of made None n ≡ Some s → last_of made before n ≡ Some s
last_anyhow made before n s h = last_either made None before n s (inr refl) h

-- It is a job of one of them.

-- only a text brings a job
abbrev pub IsTexted : Made → Type 0
IsTexted m = (v : ℕ) → m.answer ≡ Ok (Job v) → m.text ≡ Some (text_or_none m.text)

pub record IsOne (made : List Made) (n : Name) (s : ℕ × Text) : Type 0 where
  pub front : List Made
  pub one : Made
  pub back : List Made
  pub whole : made ≡ front ++ one ∷ back
  pub jobs : jobs_of one ≡ record { name = n; text = s.1; ver = s.0 } ∷ []

one_more : (m : Made) (made : List Made) (n : Name) (s : ℕ × Text) → IsOne made n s → IsOne (m ∷ made) n s
one_more m made n s o = record { front = m ∷ o.front; one = o.one; back = o.back; whole = ap (λ ms. m ∷ ms) o.whole; jobs = o.jobs }

one_here : (m : Made) (made : List Made) (n : Name) (s before : Option (ℕ × Text)) (last : ℕ × Text) (x : Answer) → m.answer ≡ x → m.name ≡ n → IsTexted m
    → counted_by x m.text before ≡ Some last → (before ≡ Some last) ⊎ IsOne (m ∷ made) n last
one_here m made n s before last (Ok (Job v)) a e texted h =
    let is : (v, text_or_none m.text) ≡ last = same_Some (v, text_or_none m.text) last h in
    inr record {
      front = [];
      one = m;
      back = made;
      whole = refl;
      jobs =
          ap (λ t. jobs_from (m.name, t) m.answer) (texted v a)
          ∙ (ap (λ y. jobs_from (m.name, Some (text_or_none m.text)) y) a
          ∙ (ap (λ k. record { name = k; text = text_or_none m.text; ver = v } ∷ []) e ∙ ap (λ (z : ℕ × Text). record { name = n; text = z.1; ver = z.0 } ∷ []) is));
    }
one_here m made n s before last (Ok Same) a e texted h = inl h
one_here m made n s before last (Ok (Removed v)) a e texted h = cc
one_here m made n s before last (Err w) a e texted h = inl h

one_if : (c : Bool) (m : Made) (made : List Made) (n : Name) (before : Option (ℕ × Text)) (last : ℕ × Text) → same_name m.name n ≡ c → IsTexted m
    → (if c then counted_by m.answer m.text before else before) ≡ Some last → (before ≡ Some last) ⊎ IsOne (m ∷ made) n last
one_if true m made n before last e texted h = one_here m made n before before last m.answer refl (same_true m.name n e) texted h
one_if false m made n before last e texted h = inl h

one_of : (made : List Made) (before : Option (ℕ × Text)) (n : Name) (s : ℕ × Text) → All IsTexted made → last_of made before n ≡ Some s → (before ≡ Some s) ⊎ IsOne made n s
one_of [] before n s texted h = inl h
one_of (m ∷ made) before n s texted h =
    let c = same_name m.name n in
    one_from (one_of made (if c then counted_by m.answer m.text before else before) n s (All-tail IsTexted m made texted) h)
  where
    one_from : ((if same_name m.name n then counted_by m.answer m.text before else before) ≡ Some s) ⊎ IsOne made n s → (before ≡ Some s) ⊎ IsOne (m ∷ made) n s
    one_from (inl e) = one_if (same_name m.name n) m made n before s refl (All-head IsTexted m made texted) e
    one_from (inr o) = inr (one_more m made n s o)

none_first : {A B : Type 0} → (A → ⊥) → A ⊎ B → B
none_first h (inl a) = absurd (h a)
none_first h (inr b) = b

pub last_is_one : (made : List Made) (n : Name) (s : ℕ × Text) → All IsTexted made → last_of made None n ≡ Some s → IsOne made n s
last_is_one made n s texted h = none_first (λ e. cc) (one_of made None n s texted h)
