-- The search for the least path: what it keeps, a name further, and the path back from a place.
use Rattle.std.proofs.Common.{◌≡◌, ◌↔◌, ◌⊎◌, inl, inr, ℕ, suc, ◌+◌, ◌<◌, ◌≤◌, Bool, true, false, List, [], ◌∷◌, ◌++◌, length, map, take, reverse, get_or, refl, ap, sym, ◌∙◌, arith, Contains}
use Rattle.std.specs.Prelude.{not, cond, ◌||◌, Option, Some, None, IfSome, if◌then◌else◌}
use Rattle.std.specs.Ordering.{nat_cmp}
use Rattle.std.specs.Cmp.Lexicographic.{slice_cmp}
use Rattle.std.specs.declared.cmp.Ordering.TheVariants.{Less, Equal}
use Rattle.std.proofs.Math.Path.{subst}
use Rattle.std.proofs.lemmas.Bool.{false≢true}
use Rattle.std.proofs.lemmas.Cmp.{nat_list_cmp_total, tied_itself}
use Rattle.std.proofs.lemmas.List.{append_assoc, append-nil, get_or_append_left, get_or_default, get_or-take, length-take, map-append, reverse-append}
use Prim.{⊥}
use Rattle.std.proofs.lemmas.List.Elements.{filter_more}
use Rattle.std.proofs.lemmas.List.Kept.{IsStrictlySortedBy-filter}
use Rattle.core_model.specs.Names.{Name, has, sorted}
use Rattle.core_model.specs.Rounds.{IsOver}
use Rattle.core_model.proofs.Naming.{has_is, has_append, false_from, filtered_from, or_cases, or_left, or_right, sorted_has}
use Rattle.module_graph.specs.Paths.{with_new}
use Rattle.module_graph.proofs.Distinct.{at_most}
use Rattle.module_graph.proofs.Sorting.{IsRising, sorted_rising}
use Rattle.core_model.specs.Roots.{are_distinct}
use Rattle.propagate.specs.Trails.{AreTrails, IsTrail, IsTraced, unmet, with_from}
use Rattle.propagate.proofs.Ranks.{Ranked, ranked_first, ranked_more, trails_on, rising_at}

-- Those of rising names that aren't met, a name further.

unseen : (names : List Name) (i : ℕ) → IsRising names → i < length names → has (take i names) (get_or names i []) ≡ false
unseen names i s h = false_from _ (λ t. by ((has_is (take i names) (get_or names i [])).1 t))
  where
    by : Contains (take i names) (get_or names i []) → ⊥
    by c =
        let x = get_or names i [] in
        let l : c.0 < i = omega (arith, c.1, h, length-take i names) in
        let e : get_or names c.0 [] ≡ x = get_or_default names c.0 [] x (omega (arith, l, h)) ∙ sym (get_or-take i names c.0 x l) ∙ c.2 in
        let same : Equal ≡ Less = sym (tied_itself nat_list_cmp_total x) ∙ ap (λ n. slice_cmp nat_cmp n x) (sym e) ∙ rising_at names c.0 i s l h in
        absurd (cc)

unmet_more : (met names : List Name) (i : ℕ) (x : Name) → i < length names → x ≡ get_or names i x → unmet met (take (i + 1) names) ≡ unmet met (take i names) ++ cond (not (has met x)) (x ∷ []) []
unmet_more met names i x h is = filter_more (λ n. not (has met n)) names i x h ∙ ap (λ n. unmet met (take i names) ++ cond (not (has met n)) (n ∷ []) []) (sym is)

module _ (met names : List Name) (i : ℕ) (x : Name) (rising : IsRising names) (h : i < length names) (is : x ≡ get_or names i x) where
  abbrev seen : List Name
  seen = met ++ unmet met (take i names)

  still : has seen x ≡ has met x
  still = has_append met (unmet met (take i names)) x ∙ by (has met x) (has (unmet met (take i names)) x)
      (false_from _ (λ t. false≢true (sym (ap (has (take i names)) (is ∙ get_or_default names i x [] h) ∙ unseen names i rising h) ∙ (filtered_from (λ n. not (has met n)) (take i names) x t).1)))
    where
      by : (a b : Bool) → b ≡ false → (a || b) ≡ a
      by true b f = refl
      by false b f = f

  met_if : (b : Bool) → (if b then seen else seen ++ x ∷ []) ≡ met ++ (unmet met (take i names) ++ cond (not b) (x ∷ []) [])
  met_if true = ap (λ l. met ++ l) (sym (append-nil (unmet met (take i names))))
  met_if false = append_assoc met (unmet met (take i names)) (x ∷ [])

  pub met_on : with_new seen x ≡ met ++ unmet met (take (i + 1) names)
  met_on = ap (λ b. if b then seen else seen ++ x ∷ []) still ∙ met_if (has met x) ∙ ap (λ l. met ++ l) (sym (unmet_more met names i x h is))

  module _ (from : List (Option ℕ)) (place : Option ℕ) where
    abbrev of_all : List Name → List (Option ℕ)
    of_all l = map (λ (n : Name). place) l

    abbrev placed : List (Option ℕ)
    placed = from ++ of_all (unmet met (take i names))

    from_if : (b : Bool) → (if b then placed else placed ++ place ∷ []) ≡ from ++ (of_all (unmet met (take i names)) ++ of_all (cond (not b) (x ∷ []) []))
    from_if true = ap (λ l. from ++ l) (sym (append-nil (of_all (unmet met (take i names)))))
    from_if false = append_assoc from (of_all (unmet met (take i names))) (place ∷ [])

    pub from_on : with_from seen placed x place ≡ from ++ of_all (unmet met (take (i + 1) names))
    from_on = ap (λ b. if b then placed else placed ++ place ∷ []) still ∙ from_if (has met x)
        ∙ ap (λ l. from ++ l) (sym (ap of_all (unmet_more met names i x h is) ∙ map-append (λ (n : Name). place) (unmet met (take i names)) (cond (not (has met x)) (x ∷ []) [])))

-- What the search keeps.
pub record Searching (edge : Name → Name → Bool) (starts among : List Name) (bad : Name → Bool) (met : List Name) (from : List (Option ℕ)) (at : ℕ) : Type 0 where
  pub paths : List (List Name)
  pub trails : AreTrails met from paths
  pub ranked : Ranked edge starts met paths at
  pub few : (m : Name) → has met m ≡ true → has (starts ++ among) m ≡ true
  pub fine : (i : ℕ) → i < at → bad (get_or met i []) ≡ false

all_unmet : (names : List Name) → unmet [] names ≡ names
all_unmet [] = refl
all_unmet (n ∷ names) = ap (λ l. n ∷ l) (all_unmet names)

no_trails : AreTrails [] [] []
no_trails = record { places = refl; long = refl; each = λ i h. absurd (omega (arith, h)) }

module _ (edge : Name → Name → Bool) (starts among : List Name) (bad : Name → Bool) where
  first_by : (met : List Name) → met ≡ sorted starts → Searching edge starts among bad met (map (λ (n : Name). None) met) 0
  first_by met e = record {
    paths = map (λ n. n ∷ []) met;
    trails = trails_on [] met [] [] refl [] None refl no_trails;
    ranked = ranked_first edge starts met (subst IsRising (sym e) (sorted_rising starts)) (λ n. ap (λ l. has l n) e ∙ sorted_has starts n);
    few = λ m h. has_append starts among m ∙ or_left (has starts m) _ (sym (sorted_has starts m) ∙ ap (λ l. has l m) (sym e) ∙ h);
    fine = λ i h. absurd (omega (arith, h));
  }

  pub searching_first : (first met : List Name) (from : List (Option ℕ)) → first ≡ sorted starts → met ≡ unmet [] first → from ≡ map (λ (n : Name). None) (unmet [] first) → Searching edge starts among bad met from 0
  searching_first first met from e f g = subst (λ l. Searching edge starts among bad met l 0) (sym (g ∙ ap (map (λ (n : Name). None)) (sym f))) (first_by met (f ∙ all_unmet first ∙ e))

  -- no more names are met than there are
  pub searching_room : (met : List Name) (from : List (Option ℕ)) (at : ℕ) → Searching edge starts among bad met from at → are_distinct met ≡ true → length met ≤ length (starts ++ among)
  searching_room met from at s d = at_most met (starts ++ among) d s.few

  below_or_at : (i at : ℕ) → i < at + 1 → (i < at) ⊎ (i ≡ at)
  below_or_at i at h = grind arith

  module _ (met : List Name) (from : List (Option ℕ)) (at : ℕ) (n : Name) (led next : List Name) (s : Searching edge starts among bad met from at) (there : at < length met) (is : n ≡ get_or met at []) (good : bad n ≡ false) (exact : (m : Name) → Contains led m ↔ (edge n m ≡ true)) (over : IsOver edge among) (rise : next ≡ sorted led) where
    next_has : (m : Name) → has next m ≡ has led m
    next_has m = ap (λ l. has l m) rise ∙ sorted_has led m

    leads : (m : Name) → (has next m ≡ true) ↔ (edge (get_or met at []) m ≡ true)
    leads m = (
      (λ h. ap (λ k. edge k m) (sym is) ∙ (exact m).0 ((has_is led m).1 (sym (next_has m) ∙ h))),
      (λ e. next_has m ∙ (has_is led m).0 ((exact m).1 (ap (λ k. edge k m) is ∙ e))),
    )

    few_by : (m : Name) → (has met m ≡ true) ⊎ (has (unmet met next) m ≡ true) → has (starts ++ among) m ≡ true
    few_by m (inl h) = s.few m h
    few_by m (inr h) = has_append starts among m ∙ or_right (has starts m) _ (over (get_or met at []) m ((leads m).0 (filtered_from (λ k. not (has met k)) next m h).1))

    fine_by : (i : ℕ) → (i < at) ⊎ (i ≡ at) → bad (get_or (met ++ unmet met next) i []) ≡ false
    fine_by i (inl l) = ap bad (get_or_append_left met (unmet met next) [] i (omega (arith, l, there))) ∙ s.fine i l
    fine_by i (inr e) = ap bad (ap (λ j. get_or (met ++ unmet met next) j []) e ∙ get_or_append_left met (unmet met next) [] at there ∙ sym is) ∙ good

    more_by : Searching edge starts among bad (met ++ unmet met next) (from ++ map (λ (k : Name). Some at) (unmet met next)) (at + 1)
    more_by = record {
      paths = s.paths ++ map (λ k. get_or s.paths at [] ++ k ∷ []) (unmet met next);
      trails = trails_on met (unmet met next) s.paths (get_or s.paths at []) s.ranked.long from (Some at) (there, refl) s.trails;
      ranked = ranked_more edge starts met s.paths at next s.ranked there (IsStrictlySortedBy-filter (slice_cmp nat_cmp) (λ k. not (has met k)) next (subst IsRising (sym rise) (sorted_rising led))) leads;
      few = λ m h. few_by m (or_cases (has met m) _ (sym (has_append met (unmet met next) m) ∙ h));
      fine = λ i l. fine_by i (below_or_at i at l);
    }

    -- the names that the next one's edges lead to are met
    pub searching_more : (met_now : List Name) (from_now : List (Option ℕ)) → met_now ≡ met ++ unmet met next → from_now ≡ from ++ map (λ (k : Name). Some at) (unmet met next) → Searching edge starts among bad met_now from_now (at + 1)
    searching_more met_now from_now e f = subst (λ l. Searching edge starts among bad l from_now (at + 1)) (sym e) (subst (λ l. Searching edge starts among bad (met ++ unmet met next) l (at + 1)) (sym f) more_by)

-- The path back.

-- the path to a place, or none
abbrev pub path_before : List (List Name) → Option ℕ → List Name
path_before paths None = []
path_before paths (Some i) = get_or paths i []

-- how many places there are up to this one
abbrev pub places_to : Option ℕ → ℕ
places_to None = 0
places_to (Some i) = suc i

back_if : (met : List Name) (paths : List (List Name)) (i : ℕ) (o : Option ℕ) → IsTrail met paths i o → get_or paths i [] ≡ path_before paths o ++ get_or met i [] ∷ []
back_if met paths i None t = t
back_if met paths i (Some k) t = t.1

earlier_if : (met : List Name) (paths : List (List Name)) (i : ℕ) (o : Option ℕ) → IsTrail met paths i o → places_to o < suc i
earlier_if met paths i None t = omega arith
earlier_if met paths i (Some k) t = omega (arith, t.0)

within_if : (i n : ℕ) (o : Option ℕ) → i < n → places_to o < suc i → IfSome o (λ k. k < n)
within_if i n None h l = tt
within_if i n (Some k) h l = omega (arith, h, l)

pub earlier : (met : List Name) (from : List (Option ℕ)) (i : ℕ) → IsTraced met from → i < length met → places_to (get_or from i None) < suc i
earlier met from i t h = earlier_if met t.paths i (get_or from i None) (t.are.each i h)

pub earlier_within : (met : List Name) (from : List (Option ℕ)) (i : ℕ) → IsTraced met from → i < length met → IfSome (get_or from i None) (λ k. k < length met)
earlier_within met from i t h = within_if i (length met) (get_or from i None) h (earlier met from i t h)

pub one_back : (met : List Name) (from : List (Option ℕ)) (paths : List (List Name)) (i : ℕ) (whole path : List Name) → AreTrails met from paths → i < length met → whole ≡ get_or paths i [] ++ reverse path → whole ≡ path_before paths (get_or from i None) ++ reverse (path ++ get_or met i [] ∷ [])
one_back met from paths i whole path t h e =
    e ∙ ap (λ l. l ++ reverse path) (back_if met paths i (get_or from i None) (t.each i h)) ∙ append_assoc (path_before paths (get_or from i None)) (get_or met i [] ∷ []) (reverse path)
    ∙ ap (λ l. path_before paths (get_or from i None) ++ l) (sym (reverse-append path (get_or met i [] ∷ [])))
