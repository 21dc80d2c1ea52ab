-- The test of a table, at neighbours and as facts on all of its pairs.
use Rattle.std.proofs.Common.{ℕ, zero, suc, ◌<◌, ◌≤◌, List, [], ◌∷◌, length, get_or, Bool, true, false, ◌≡◌, refl, sym, ap, Ordering, arith, add-one}
use Rattle.std.specs.Prelude.{◌↔◌, nat_le}
use Rattle.std.specs.declared.cmp.Ordering.TheVariants.{Less, Equal, Greater}
use Rattle.std.specs.Ordering.{is_lt, nat_cmp}
use Rattle.std.specs.Cmp.Lexicographic.{slice_cmp, nat_list_cmp_total}
use Rattle.std.specs.List.{AllByRecursion, IsAllAdjacentAnswer}
use Rattle.std.specs.List.Sorted.{IsStrictlySortedBy}
use Rattle.std.specs.Map.{keys_of}
use Rattle.std.proofs.lemmas.Bool.{and_parts, and_from, and_left, and_right, leb-true, le-leb}
use Rattle.std.proofs.lemmas.List.Sums.{AllPass-from_list_all, list_all-from_AllPass}
use Rattle.std.proofs.lemmas.Map.Keys.{sorted_head, sorted_tail}
use Rattle.hmr_types.specs.Table.{IsTable, is_table, is_version, rises}

abbrev Pair : Type 0
Pair = List ℕ × ℕ

abbrev order : List ℕ → List ℕ → Ordering
order = slice_cmp nat_cmp

abbrev below : Pair → Pair → Bool
below p q = is_lt (order p.0 q.0)

less : (o : Ordering) → is_lt o ≡ true → o ≡ Less
less Less h = refl
less Equal h = absurd (cc)
less Greater h = absurd (cc)

rises_all : (ps : List Pair) → ((k : ℕ) (d : Pair) → suc k < length ps → true ≡ below (get_or ps k d) (get_or ps (suc k) d)) → true ≡ rises ps
rises_all [] h = refl
rises_all (p ∷ []) h = refl
rises_all (p ∷ (q ∷ more)) h = sym (and_from _ _ (sym (h 0 p (omega arith))) (sym (rises_all (q ∷ more) (λ k d lt. h (suc k) d (omega arith)))))

rises_not : (ps : List Pair) (k : ℕ) → suc k < length ps → ((d : Pair) → false ≡ below (get_or ps k d) (get_or ps (suc k) d)) → false ≡ rises ps
rises_not [] k lt h = absurd (omega arith)
rises_not (p ∷ []) k lt h = absurd (omega arith)
rises_not (p ∷ (q ∷ more)) zero lt h = sym (and_left _ (rises (q ∷ more)) (sym (h p)))
rises_not (p ∷ (q ∷ more)) (suc k) lt h = sym (and_right (below p q) _ (sym (rises_not (q ∷ more) k (omega arith) h)))

-- what a test of all neighbours answers
pub rises_is : (ps : List Pair) (r : Bool) → IsAllAdjacentAnswer (λ p q b. b ≡ below p q) ps r → r ≡ rises ps
rises_is ps true h = rises_all ps (λ k d lt. rw add-one at (h k d (omega arith)))
rises_is ps false (k, lt, apart) = rises_not ps k (omega arith) (λ d. rw add-one at (apart d))

lower : (a b : List ℕ) (names : List (List ℕ)) → order a b ≡ Less → AllByRecursion (λ y. order b y ≡ Less) names → AllByRecursion (λ y. order a y ≡ Less) names
lower a b [] h all = tt
lower a b (c ∷ more) h all = (nat_list_cmp_total.trans a b c h all.0, lower a b more h all.1)

in_order : (p : Pair) (ps : List Pair) → rises (p ∷ ps) ≡ true → IsStrictlySortedBy order (keys_of (p ∷ ps))
unfolding IsStrictlySortedBy
in_order p [] h = (tt, tt)
in_order p (q ∷ more) h =
    let here = and_parts (below p q) (rises (q ∷ more)) h in
    let pq = less _ here.0 in
    let rest = in_order q more here.1 in
    ((pq, lower p.0 q.0 (keys_of more) pq rest.0), rest)

neighbours : (ps : List Pair) → IsStrictlySortedBy order (keys_of ps) → rises ps ≡ true
neighbours [] h = refl
neighbours (p ∷ []) h = refl
neighbours (p ∷ (q ∷ more)) h =
    and_from _ _ (ap is_lt (sorted_head order p.0 (keys_of (q ∷ more)) h).0) (neighbours (q ∷ more) (sorted_tail order p.0 (keys_of (q ∷ more)) h))

sorted : (ps : List Pair) → rises ps ≡ true → IsStrictlySortedBy order (keys_of ps)
unfolding IsStrictlySortedBy
sorted [] h = tt
sorted (p ∷ ps) h = in_order p ps h

version_facts : (v : ℕ) → is_version v ≡ true → (1 ≤ v) × (v ≤ 9007199254740991)
version_facts v h =
    let tests = and_parts (nat_le 1 v) (nat_le v 9007199254740991) h in
    (leb-true 1 v tests.0, leb-true v 9007199254740991 tests.1)

version_test : (v : ℕ) → (1 ≤ v) × (v ≤ 9007199254740991) → is_version v ≡ true
version_test v h = and_from _ _ (le-leb 1 v h.0) (le-leb v 9007199254740991 h.1)

-- the test says what the facts say
pub is_table-iff : (ps : List Pair) → (is_table ps ≡ true) ↔ IsTable ps
is_table-iff ps = (
  (λ h.
      let tests = and_parts (rises ps) _ h in
      record {
        rising = sorted ps tests.0;
        versions = λ k d lt. version_facts _ (AllPass-from_list_all (λ p. is_version p.1) ps tests.1 k d lt);
      }),
  (λ facts. and_from _ _ (neighbours ps facts.rising) (list_all-from_AllPass (λ p. is_version p.1) ps (λ k d lt. version_test _ (facts.versions k d lt)))),
)
