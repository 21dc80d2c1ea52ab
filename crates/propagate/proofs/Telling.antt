-- Who is told: what a boundary may be told of has all of its pairs, and the pairs rise.
use Rattle.std.proofs.Common.{◌≡◌, ◌↔◌, ◌⊎◌, inl, inr, Bool, true, false, List, [], ◌∷◌, ◌++◌, map, refl, ap, sym, ◌∙◌, Contains}
use Rattle.std.specs.Prelude.{filter, flat_map, cond, ◌&&◌, ◌||◌, not}
use Rattle.std.specs.List.{AllByRecursion}
use Rattle.std.proofs.lemmas.Bool.{false≢true}
use Rattle.std.specs.List.Sorted.{IsStrictlySortedBy}
use Rattle.std.specs.declared.cmp.Ordering.TheVariants.{Less}
use Rattle.std.specs.Ordering.{nat_cmp, ordering_then}
use Rattle.std.specs.Cmp.Lexicographic.{slice_cmp}
use Rattle.std.proofs.lemmas.Cmp.{nat_list_cmp_total, tied_itself}
use Rattle.std.proofs.lemmas.List.Kept.{IsStrictlySortedBy-filter}
use Rattle.core_model.specs.Names.{Name, same_name, has, at, names_of, sorted}
use Rattle.core_model.specs.View.{View, accepted_of, accepts, self_accepts}
use Rattle.core_model.specs.Rounds.{touched}
use Rattle.core_model.specs.Spread.{AreIn, IsReplaced, is_pair, pairs_with, pairs_of}
use Rattle.core_model.proofs.Naming.{same_true, has_is, has_append, filtered_has, filtered_from, sorted_has, both_true, or_cases, or_left, or_right, any_from, any_is, no_names, Found}
use Rattle.core_model.proofs.Views.{accepter_named}
use Rattle.core_model.proofs.Spreading.{replaced_named}
use Rattle.module_graph.proofs.Sorting.{IsRising, same_rising, sorted_rising}
use Rattle.propagate.specs.Pairs.{accepted_by, own_and_accepted, told, may_be_told, pair_cmp}

and_same : (b p q : Bool) → (b ≡ true → p ≡ q) → (b && p) ≡ (b && q)
and_same true p q f = f refl
and_same false p q f = refl

flat_map_same : (f g : Name → List (Name × Name)) → ((m : Name) → f m ≡ g m) → (names : List Name) → flat_map f names ≡ flat_map g names
flat_map_same f g e [] = refl
flat_map_same f g e (m ∷ names) = ap (λ l. l ++ flat_map f names) (e m) ∙ ap (λ l. g m ++ l) (flat_map_same f g e names)

module _ (view : View) (changed forced replaced : List Name) (ofc : AreIn changed view) (off : AreIn forced view) (is : (m : Name) → Contains replaced m ↔ IsReplaced view changed forced m) where
  abbrev test : Name → Name → Bool
  test = is_pair view replaced forced

  changed_named : (n : Name) → has replaced n ≡ true → has (names_of view) n ≡ true
  changed_named n h = replaced_named view changed forced ofc n ((is n).0 ((has_is replaced n).1 h))

  via_named : (n : Name) → (has replaced n ≡ true) ⊎ (has forced n ≡ true) → has (names_of view) n ≡ true
  via_named n (inl h) = changed_named n h
  via_named n (inr h) = off n ((has_is forced n).1 h)

  -- what is told of is a name of the view, and the boundary's own or one that it accepts
  both_named : (m n : Name) → ((same_name m n && has replaced n && self_accepts view n) ≡ true) ⊎ ((accepts view m n && not (has replaced m) && (has replaced n || has forced n)) ≡ true) → (has (names_of view) n ≡ true) × ((same_name m n || has (accepted_of (at view m)) n) ≡ true)
  both_named m n (inl h) =
      let a = both_true (same_name m n) _ (both_true (same_name m n && has replaced n) _ h).0 in
      (changed_named n a.1, or_left (same_name m n) _ a.0)
  both_named m n (inr h) =
      let a = both_true (accepts view m n && not (has replaced m)) _ h in
      (via_named n (or_cases (has replaced n) (has forced n) a.1), or_right (same_name m n) _ (both_true (accepts view m n) _ a.0).0)

  pair_named : (m n : Name) → test m n ≡ true → (has (names_of view) n ≡ true) × ((same_name m n || has (accepted_of (at view m)) n) ≡ true)
  pair_named m n h = both_named m n (or_cases (same_name m n && has replaced n && self_accepts view n) _ h)

  kept_same : (m n : Name) → has (filter (test m) (own_and_accepted view m)) n ≡ has (filter (test m) (sorted (names_of view))) n
  kept_same m n = filtered_has (test m) (own_and_accepted view m) n
      ∙ and_same (test m n) _ _ (λ h. let p = pair_named m n h in sorted_has (m ∷ accepted_of (at view m)) n ∙ p.1 ∙ sym (sorted_has (names_of view) n ∙ p.0))
      ∙ sym (filtered_has (test m) (sorted (names_of view)) n)

  told_is : (m : Name) → told view replaced forced m ≡ pairs_with test (sorted (names_of view)) m
  told_is m = ap (map (λ n. (m, n))) (same_rising (filter (test m) (own_and_accepted view m)) (filter (test m) (sorted (names_of view)))
      (IsStrictlySortedBy-filter (slice_cmp nat_cmp) (test m) (own_and_accepted view m) (sorted_rising (m ∷ accepted_of (at view m))))
      (IsStrictlySortedBy-filter (slice_cmp nat_cmp) (test m) (sorted (names_of view)) (sorted_rising (names_of view)))
      (kept_same m))

  -- the pairs of all boundaries are the pairs
  all_told : flat_map (told view replaced forced) (sorted (names_of view)) ≡ pairs_of view replaced forced
  all_told = flat_map_same (told view replaced forced) (pairs_with test (sorted (names_of view))) told_is (sorted (names_of view))

-- Only what may be told of something is looked at.

-- lists of what is left out are empty
left_if : (f : Name → List (Name × Name)) (m : Name) (names kept : List Name) (b : Bool) → (b ≡ false → f m ≡ []) → flat_map f kept ≡ flat_map f names → flat_map f (cond b (m ∷ kept) kept) ≡ f m ++ flat_map f names
left_if f m names kept true g h = ap (λ l. f m ++ l) h
left_if f m names kept false g h = h ∙ ap (λ l. l ++ flat_map f names) (sym (g refl))

left_out : (f : Name → List (Name × Name)) (p : Name → Bool) → ((m : Name) → p m ≡ false → f m ≡ []) → (names : List Name) → flat_map f (filter p names) ≡ flat_map f names
left_out f p g [] = refl
left_out f p g (m ∷ names) = left_if f m names (filter p names) (p m) (g m) (left_out f p g names)

module _ (view : View) (changed forced replaced : List Name) (ofc : AreIn changed view) (off : AreIn forced view) (is : (m : Name) → Contains replaced m ↔ IsReplaced view changed forced m) where
  may_be : (m n : Name) → ((same_name m n && has replaced n && self_accepts view n) ≡ true) ⊎ ((accepts view m n && not (has replaced m) && (has replaced n || has forced n)) ≡ true) → may_be_told view replaced forced m ≡ true
  may_be m n (inl h) =
      let a = both_true (same_name m n) _ (both_true (same_name m n && has replaced n) _ h).0 in
      or_left (has replaced m) _ (ap (has replaced) (same_true m n a.0) ∙ a.1)
  may_be m n (inr h) =
      let a = both_true (accepts view m n && not (has replaced m)) _ h in
      or_right (has replaced m) _ (any_from (λ k. accepted_by view k m) (replaced ++ forced) n (has_append replaced forced n ∙ a.1) (both_true (accepts view m n) _ a.0).0)

  told_none : (m : Name) → may_be_told view replaced forced m ≡ false → told view replaced forced m ≡ []
  told_none m f = ap (map (λ n. (m, n))) (no_names (filter (is_pair view replaced forced m) (own_and_accepted view m))
      (λ n h. false≢true (sym f ∙ may_be m n (or_cases (same_name m n && has replaced n && self_accepts view n) _ (filtered_from (is_pair view replaced forced m) (own_and_accepted view m) n h).0))))

  -- what may be told is a module of the view
  teller_named : (m : Name) → (has replaced m ≡ true) ⊎ (touched (accepted_by view) (replaced ++ forced) m ≡ true) → has (names_of view) m ≡ true
  teller_named m (inl h) = changed_named view changed forced replaced ofc off is m h
  teller_named m (inr h) = let f : Found (λ k. accepted_by view k m) (replaced ++ forced) = any_is (λ k. accepted_by view k m) (replaced ++ forced) h in accepter_named view m f.name f.passing

  module _ (names : List Name) (these : (m : Name) → has names m ≡ may_be_told view replaced forced m) where
    in_view : (m : Name) (b : Bool) → has names m ≡ b → b ≡ (b && has (names_of view) m)
    in_view m true e = sym (teller_named m (or_cases (has replaced m) _ (sym (these m) ∙ e)))
    in_view m false e = refl

    among_sorted : sorted names ≡ filter (has names) (sorted (names_of view))
    among_sorted = same_rising (sorted names) (filter (has names) (sorted (names_of view))) (sorted_rising names)
        (IsStrictlySortedBy-filter (slice_cmp nat_cmp) (has names) (sorted (names_of view)) (sorted_rising (names_of view)))
        (λ m. sorted_has names m ∙ in_view m (has names m) refl ∙ sym (filtered_has (has names) (sorted (names_of view)) m ∙ ap (λ b. has names m && b) (sorted_has (names_of view) m)))

    pub among_told : flat_map (told view replaced forced) (sorted names) ≡ pairs_of view replaced forced
    among_told = ap (flat_map (told view replaced forced)) among_sorted
        ∙ left_out (told view replaced forced) (has names) (λ m f. told_none m (sym (these m) ∙ f)) (sorted (names_of view))
        ∙ all_told view changed forced replaced ofc off is

-- Sets in the place of lists with the same names.

filter_same : {X : Type 0} (p q : X → Bool) → ((x : X) → p x ≡ q x) → (xs : List X) → filter p xs ≡ filter q xs
filter_same p q e [] = refl
filter_same p q e (x ∷ xs) = ap (λ b. cond b (x ∷ filter p xs) (filter p xs)) (e x) ∙ ap (λ l. cond (q x) (x ∷ l) l) (filter_same p q e xs)

module _ (view : View) (replaced forced marks others : List Name) (same : (n : Name) → has marks n ≡ has replaced n) (alike : (n : Name) → has others n ≡ has forced n) where
  pair_same : (m n : Name) → is_pair view marks others m n ≡ is_pair view replaced forced m n
  pair_same m n = ap (λ b. (same_name m n && b && self_accepts view n) || (accepts view m n && not (has marks m) && (b || has others n))) (same n)
      ∙ ap (λ b. (same_name m n && has replaced n && self_accepts view n) || (accepts view m n && not b && (has replaced n || has others n))) (same m)
      ∙ ap (λ b. (same_name m n && has replaced n && self_accepts view n) || (accepts view m n && not (has replaced m) && (has replaced n || b))) (alike n)

  told_same : (m : Name) → told view marks others m ≡ told view replaced forced m
  told_same m = ap (map (λ n. (m, n))) (filter_same (is_pair view marks others m) (is_pair view replaced forced m) (pair_same m) (own_and_accepted view m))

  -- what the boundaries are told of, by the marks
  pub marks_told : (names : List Name) → flat_map (told view marks others) names ≡ flat_map (told view replaced forced) names
  marks_told names = flat_map_same (told view marks others) (told view replaced forced) told_same names

-- The pairs rise.

abbrev Pair : Type 0
Pair = Name × Name

all_append : (P : Pair → Type 0) (xs ys : List Pair) → AllByRecursion P xs → AllByRecursion P ys → AllByRecursion P (xs ++ ys)
all_append P [] ys a b = b
all_append P (x ∷ xs) ys a b = (a.0, all_append P xs ys a.1 b)

append_rises : (xs ys : List Pair) → IsStrictlySortedBy pair_cmp xs → IsStrictlySortedBy pair_cmp ys → AllByRecursion (λ x. AllByRecursion (λ y. pair_cmp x y ≡ Less) ys) xs → IsStrictlySortedBy pair_cmp (xs ++ ys)
unfolding IsStrictlySortedBy
append_rises [] ys s t a = t
append_rises (x ∷ xs) ys s t a = (all_append (λ y. pair_cmp x y ≡ Less) xs ys s.0 a.0, append_rises xs ys s.1 t a.1)

same_boundary : (m n k : Name) → slice_cmp nat_cmp n k ≡ Less → pair_cmp (m, n) (m, k) ≡ Less
same_boundary m n k h = ap (λ o. ordering_then o (slice_cmp nat_cmp n k)) (tied_itself nat_list_cmp_total m) ∙ h

with_boundary : (m n : Name) (names : List Name) → AllByRecursion (λ k. slice_cmp nat_cmp n k ≡ Less) names → AllByRecursion (λ q. pair_cmp (m, n) q ≡ Less) (map (λ k. (m, k)) names)
with_boundary m n [] a = tt
with_boundary m n (k ∷ names) a = (same_boundary m n k a.0, with_boundary m n names a.1)

one_boundary : (m : Name) (names : List Name) → IsRising names → IsStrictlySortedBy pair_cmp (map (λ k. (m, k)) names)
unfolding IsStrictlySortedBy
one_boundary m [] s = tt
one_boundary m (n ∷ names) s = (with_boundary m n names s.0, one_boundary m names s.1)

less_boundary : (m n j : Name) (names : List Name) → slice_cmp nat_cmp m j ≡ Less → AllByRecursion (λ q. pair_cmp (m, n) q ≡ Less) (map (λ k. (j, k)) names)
less_boundary m n j [] h = tt
less_boundary m n j (k ∷ names) h = (ap (λ o. ordering_then o (slice_cmp nat_cmp n k)) h, less_boundary m n j names h)

module _ (among : Name → List Name) (rising : (m : Name) → IsRising (among m)) where
  abbrev of_one : Name → List Pair
  of_one m = map (λ k. (m, k)) (among m)

  later : (m n : Name) (boundaries : List Name) → AllByRecursion (λ j. slice_cmp nat_cmp m j ≡ Less) boundaries → AllByRecursion (λ q. pair_cmp (m, n) q ≡ Less) (flat_map of_one boundaries)
  later m n [] a = tt
  later m n (j ∷ boundaries) a = all_append (λ q. pair_cmp (m, n) q ≡ Less) (of_one j) (flat_map of_one boundaries) (less_boundary m n j (among j) a.0) (later m n boundaries a.1)

  all_later : (m : Name) (names boundaries : List Name) → AllByRecursion (λ j. slice_cmp nat_cmp m j ≡ Less) boundaries → AllByRecursion (λ x. AllByRecursion (λ y. pair_cmp x y ≡ Less) (flat_map of_one boundaries)) (map (λ k. (m, k)) names)
  all_later m [] boundaries a = tt
  all_later m (n ∷ names) boundaries a = (later m n boundaries a, all_later m names boundaries a)

  all_rise : (boundaries : List Name) → IsRising boundaries → IsStrictlySortedBy pair_cmp (flat_map of_one boundaries)
  unfolding IsStrictlySortedBy
  all_rise [] s = tt
  all_rise (m ∷ boundaries) s = append_rises (of_one m) (flat_map of_one boundaries) (one_boundary m (among m) (rising m)) (all_rise boundaries s.1) (all_later m (among m) boundaries s.0)

-- the pairs rise by boundary, and then by what it is told of
pub pairs_rise : (view : View) (replaced forced : List Name) → IsStrictlySortedBy pair_cmp (pairs_of view replaced forced)
pairs_rise view replaced forced = all_rise (λ m. filter (is_pair view replaced forced m) (sorted (names_of view)))
    (λ m. IsStrictlySortedBy-filter (slice_cmp nat_cmp) (is_pair view replaced forced m) (sorted (names_of view)) (sorted_rising (names_of view)))
    (sorted (names_of view)) (sorted_rising (names_of view))
