-- What a plan hands on: a replaced instance leaves the bag that its name has when the new instances are made,
-- and each new instance starts with that.
use Rattle.std.proofs.Common.{◌≡◌, ℕ, ◌≤◌, Bool, true, false, List, [], ◌∷◌, length, refl, ap, sym, ◌∙◌, arith, Contains, subst}
use Rattle.std.specs.Prelude.{map, filter, cond, ◌&&◌, ◌||◌, Option, Some, None, is_some, ⊤}
use Rattle.std.specs.List.{list_any}
use Rattle.std.proofs.lemmas.Bool.{false≢true, eq-eqb}
use Rattle.std.proofs.lemmas.Option.{same_Some}
use Rattle.output_lines.specs.declared.words.FaultPlace.TheVariants as place
use Rattle.core_model.specs.Names.{Name, same_name}
use Rattle.core_model.proofs.Naming.{both_true, or_left, same_true, true_same, has_is}
use Rattle.client_model.specs.Language.{Language, Bag}
use Rattle.client_model.specs.Instance.{Instance, is_live, disposes}
use Rattle.client_model.specs.Journal.{ended}
use Rattle.client_model.specs.Runtime.{Runtime, Did, and_then, for_each, bag_of}
use Rattle.client_model.specs.Running.{no_arguments, run_each, drop_each, end_instance}
use Rattle.client_model.specs.Making.{Birth, make}
use Rattle.client_model.specs.Applying.{is_left_behind, fate_by, replace_instance}
use Rattle.client_model.proofs.Acts.{kept_replace, kept_disposed}
use Rattle.client_model.proofs.Bagging.{Keeps, bags_kept}
use Rattle.world_laws.proofs.Members.{head_in, tail_in, map_in}
use Rattle.world_laws.proofs.Frames.{Frame, frame, frames, is_of, live_count, Distinct, names_in, other_name}
use Rattle.world_laws.proofs.Births.{birth_frame}
use Rattle.journal_laws.specs.Data.{is_replaced_by, is_succeeded_by}
use Rattle.journal_laws.proofs.DataEach.{Each, each_append, each_then}
use Rattle.journal_laws.proofs.DataSplits.{any_left, any_right}
use Rattle.journal_laws.proofs.DataSparing.{AreNamed, some_of, rest_named, spares_all, spares_make, replacing}
use Rattle.journal_laws.proofs.DataTelling.{EvaluatedAs, EndedAs, FateAs, evaluated_calm, ended_calm, ended_respects, free_make, free_disposed}

-- Live instances of different names.

-- each has a name of its own
abbrev pub OneEach : List Instance → Type 0
OneEach [] = ⊤
OneEach (i ∷ is) = (some_of i.name is ≡ false) × OneEach is

counted_step : (n : Name) (i : Instance) (xs : List Instance) (ys : List Frame) (live same tested : Bool) → same_name i.name n ≡ same → (some_of n xs ≡ true → 1 ≤ length ys) → some_of n (cond (live && tested) (i ∷ xs) xs) ≡ true → 1 ≤ length (cond (live && same) (frame i ∷ ys) ys)
counted_step n i xs ys true true tested e rest h = omega arith
counted_step n i xs ys true false true e rest h = rest (ap (λ b. b || some_of n xs) (sym e) ∙ h)
counted_step n i xs ys true false false e rest h = rest h
counted_step n i xs ys false same tested e rest h = rest h

pub some_counted : (test : Name → Bool) (n : Name) (is : List Instance) → some_of n (filter (λ i. is_live i && test i.name) is) ≡ true → 1 ≤ live_count (frames is) n
some_counted test n [] h = absurd (false≢true h)
some_counted test n (i ∷ is) h = counted_step n i (filter (λ j. is_live j && test j.name) is) (filter (is_of n) (frames is)) (is_live i) (same_name i.name n) (test i.name) refl (some_counted test n is) h

fewer : (n : Name) (f : Frame) (ys : List Frame) (b : Bool) → length (cond b (f ∷ ys) ys) ≤ 1 → length ys ≤ 1
fewer n f ys true h = omega (arith, h)
fewer n f ys false h = h

pub one_each : (test : Name → Bool) (is : List Instance) → ((n : Name) → live_count (frames is) n ≤ 1) → OneEach (filter (λ i. is_live i && test i.name) is)
one_each test [] h = tt
one_each test (i ∷ is) h = by (is_live i && test i.name) refl (one_each test is (λ n. fewer n (frame i) (filter (is_of n) (frames is)) (is_of n (frame i)) (h n)))
  where
    apart : (b : Bool) → some_of i.name (filter (λ j. is_live j && test j.name) is) ≡ b → is_live i ≡ true → b ≡ false
    apart true s live = absurd (omega (arith, some_counted test i.name is s, subst (λ b. length (cond b (frame i ∷ filter (is_of i.name) (frames is)) (filter (is_of i.name) (frames is))) ≤ 1) (ap (λ b. b && same_name i.name i.name) live ∙ true_same i.name i.name refl) (h i.name)))
    apart false s live = refl

    by : (b : Bool) → (is_live i && test i.name) ≡ b → OneEach (filter (λ j. is_live j && test j.name) is) → OneEach (cond b (i ∷ filter (λ j. is_live j && test j.name) is) (filter (λ j. is_live j && test j.name) is))
    by true e rest = (apart (some_of i.name (filter (λ j. is_live j && test j.name) is)) refl (both_true (is_live i) (test i.name) e).0, rest)
    by false e rest = rest

-- Replaced instances.

-- replaced by this number, it leaves the bag that the name has in the end
abbrev pub LeftFor : (Name → Option ℕ) → Runtime → ℕ → Name → Bag → Type 0
LeftFor number last k n bag = (number n ≡ Some k) × (bag ≡ bag_of last n)

module _ (language : Language) (number : Name → Option ℕ) where
  abbrev replaces : List Instance → Runtime → Did
  replaces = for_each (replace_instance language number)

  end_left : (last : Runtime) (n : Name) (o : Option ℕ) (bag : Bag) → number n ≡ o → bag ≡ bag_of last n → FateAs (LeftFor number last) n (fate_by o) bag
  end_left last n None bag e same = tt
  end_left last n (Some k) bag e same = (e, same)

  replaced_left : (last : Runtime) (i : Instance) (r : Runtime) → bag_of (replace_instance language number i r).0 i.name ≡ bag_of last i.name → Each (EndedAs (LeftFor number last)) (bag_of r) (replace_instance language number i r).1
  replaced_left last i r e =
      let disposed : Did = run_each language place.Dispose no_arguments disposes i.number r in
      let kept : Did = and_then disposed (drop_each is_left_behind i.number) in
      let keeps : Keeps r kept = kept_disposed Keeps bags_kept language i r in
      each_then (EndedAs (LeftFor number last)) (ended_respects (LeftFor number last)) r kept (end_instance (fate_by (number i.name)) i.number i.name) keeps
      (free_disposed (EndedAs (LeftFor number last)) (ended_calm (LeftFor number last)) language i r (bag_of r))
      (end_left last i.name (number i.name) (bag_of kept.0 i.name) refl e, tt)

  pub replaces_left : (is : List Instance) (r : Runtime) → AreNamed (frames r.instances) is → OneEach is → Each (EndedAs (LeftFor number (replaces is r).0)) (bag_of r) (replaces is r).1
  replaces_left [] r named one = tt
  replaces_left (i ∷ is) r named one =
      let first : Did = replace_instance language number i r in
      let last : Runtime = (replaces is first.0).0 in
      let still : AreNamed (frames first.0.instances) is = rest_named (replace_instance language number) (replacing language number) i is r named in
      each_then (EndedAs (LeftFor number last)) (ended_respects (LeftFor number last)) r first (replaces is) (kept_replace Keeps bags_kept language number i r)
      (replaced_left last i r (sym (spares_all (replace_instance language number) (replacing language number) i.name is first.0 still one.0)))
      (replaces_left is first.0 still one.1)

  -- the end of one that is among them is told of
  pub replace_told : (n : Name) (k : ℕ) → number n ≡ Some k → (is : List Instance) (r : Runtime) → some_of n is ≡ true → list_any (is_succeeded_by k n) (replaces is r).1 ≡ true
  replace_told n k e [] r h = absurd (false≢true h)
  replace_told n k e (i ∷ is) r h = by (same_name i.name n) refl h (replace_told n k e is (replace_instance language number i r).0)
    where
      kept : Did
      kept = and_then (run_each language place.Dispose no_arguments disposes i.number r) (drop_each is_left_behind i.number)

      fate_is : (o : Option ℕ) → o ≡ Some k → is_replaced_by k (fate_by o) ≡ true
      fate_is None f = absurd (false≢true (ap is_some f))
      fate_is (Some j) f = eq-eqb j k (same_Some j k f)

      told_here : same_name i.name n ≡ true → list_any (is_succeeded_by k n) (replace_instance language number i r).1 ≡ true
      told_here s = any_right (is_succeeded_by k n) kept.1 (ended i.number i.name (fate_by (number i.name)) ∷ []) (or_left (same_name i.name n && is_replaced_by k (fate_by (number i.name))) false (ap (λ b. b && is_replaced_by k (fate_by (number i.name))) s ∙ fate_is (number i.name) (ap number (same_true i.name n s) ∙ e)))

      by : (b : Bool) → same_name i.name n ≡ b → (b || some_of n is) ≡ true → (some_of n is ≡ true → list_any (is_succeeded_by k n) (replaces is (replace_instance language number i r).0).1 ≡ true) → list_any (is_succeeded_by k n) (replaces (i ∷ is) r).1 ≡ true
      by true s h rest = any_left (is_succeeded_by k n) (replace_instance language number i r).1 (replaces is (replace_instance language number i r).0).1 (told_here s)
      by false s h rest = any_right (is_succeeded_by k n) (replace_instance language number i r).1 (replaces is (replace_instance language number i r).0).1 (rest h)

-- New instances.

module _ (language : Language) (Is : ℕ → Name → Bag → Type 0) where
  -- each starts with the bag that its name has before they are made
  pub births_start : (bs : List Birth) (r : Runtime) → Distinct (names_in (map birth_frame bs)) → ((f : Frame) (before : Bag) → Contains (map birth_frame bs) f → before ≡ bag_of r f.name → Is f.number f.name before) → (bags : Name → Bag) → Each (EvaluatedAs Is) bags (for_each (make language) bs r).1
  births_start [] r d is bags = tt
  births_start (b ∷ bs) r d is bags =
      let s : Runtime = (make language b r).0 in
      each_append (EvaluatedAs Is) bags (make language b r).1 (for_each (make language) bs s).1
      (free_make (EvaluatedAs Is) (evaluated_calm Is) language b r (λ i bags. tt) (λ bags. tt) (λ e bags. is (birth_frame b) (bag_of r b.name) (head_in (birth_frame b) (map birth_frame bs)) refl) bags)
      (births_start bs s d.1 (λ f before c e. is f before (tail_in (birth_frame b) (map birth_frame bs) f c)
      (e ∙ spares_make language f.name b r (other_name b.name f.name (names_in (map birth_frame bs)) d.0 ((has_is (names_in (map birth_frame bs)) f.name).0 (map_in (λ (g : Frame). g.name) (map birth_frame bs) f c))))) _)
