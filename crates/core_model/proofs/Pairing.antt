-- Who is told: the computed pairs are the pairs.
use Rattle.std.proofs.Common.{◌≡◌, ◌↔◌, ◌⊎◌, inl, inr, ◌<◌, Bool, true, List, [], ◌∷◌, ◌++◌, length, get_or, refl, ap, sym, ◌∙◌, arith, Contains}
use Rattle.std.specs.Prelude.{filter, flat_map, ◌&&◌, ◌||◌, not}
use Rattle.std.proofs.Math.Path.{subst}
use Rattle.std.proofs.lemmas.Bool.{false≢true}
use Rattle.std.proofs.lemmas.List.{get_or-map, length-map}
use Rattle.std.proofs.lemmas.List.Elements.{Contains-append_left, Contains-append_right, Contains-append_cases, Contains-get_or}
use Rattle.core_model.specs.Names.{Name, same_name, has, names_of, sorted}
use Rattle.core_model.specs.View.{View, accepts, self_accepts}
use Rattle.core_model.specs.Spread.{IsReplaced, IsPair, AreIn, is_pair, pairs_with, pairs_of}
use Rattle.core_model.proofs.Naming.{same_true, true_same, has_is, both_true, and_both, or_cases, or_left, or_right, not_true, not_from, filtered_from, filtered_in, sorted_has}
use Rattle.core_model.proofs.Views.{accepter_named}
use Rattle.core_model.proofs.Spreading.{replaced_named}

-- an element of the lists of all
record IsOfAll (g : Name → List (Name × Name)) (xs : List Name) (p : Name × Name) : Type 0 where
  from : Name
  there : Contains xs from
  is : Contains (g from) p

all_or : (g : Name → List (Name × Name)) (x : Name) (xs : List Name) (p : Name × Name) → (Contains (flat_map g xs) p → IsOfAll g xs p) → Contains (g x) p ⊎ Contains (flat_map g xs) p → IsOfAll g (x ∷ xs) p
all_or g x xs p f (inl c) = record { from = x; there = (0, omega arith, refl); is = c }
all_or g x xs p f (inr c) =
    let r : IsOfAll g xs p = f c in
    record { from = r.from; there = Contains-append_right (x ∷ []) xs r.from r.there; is = r.is }

all_only : (g : Name → List (Name × Name)) (xs : List Name) (p : Name × Name) → Contains (flat_map g xs) p → IsOfAll g xs p
all_only g [] p c = absurd (omega (arith, c.1))
all_only g (x ∷ xs) p c = all_or g x xs p (all_only g xs p) (Contains-append_cases (g x) (flat_map g xs) p c)

from_or : (g : Name → List (Name × Name)) (x : Name) (xs : List Name) (n : Name) (p : Name × Name) → Contains (g n) p → (has xs n ≡ true → Contains (flat_map g xs) p) → (same_name x n ≡ true) ⊎ (has xs n ≡ true) → Contains (g x ++ flat_map g xs) p
from_or g x xs n p c f (inl e) = Contains-append_left (g x) (flat_map g xs) p (subst (λ k. Contains (g k) p) (sym (same_true x n e)) c)
from_or g x xs n p c f (inr h) = Contains-append_right (g x) (flat_map g xs) p (f h)

all_from : (g : Name → List (Name × Name)) (xs : List Name) (n : Name) (p : Name × Name) → has xs n ≡ true → Contains (g n) p → Contains (flat_map g xs) p
all_from g [] n p h c = absurd (false≢true h)
all_from g (x ∷ xs) n p h c = from_or g x xs n p c (λ k. all_from g xs n p k c) (or_cases (same_name x n) (has xs n) h)

-- the pairs of one boundary
with_only : (test : Name → Name → Bool) (names : List Name) (m a b : Name) → Contains (pairs_with test names m) (a, b) → (m ≡ a) × (test m b ≡ true)
with_only test names m a b c =
    let f : Name → Name × Name = λ n. (m, n) in
    let xs = filter (test m) names in
    let h : c.0 < length xs = omega (arith, c.1, length-map xs f) in
    let e : (m, get_or xs c.0 []) ≡ (a, b) = sym (get_or-map f xs c.0 [] (a, b) h) ∙ c.2 in
    let k : Contains xs b = subst (Contains xs) (ap (λ (p : Name × Name). p.1) e) (Contains-get_or xs c.0 [] h) in
    (ap (λ (p : Name × Name). p.0) e, (filtered_from (test m) names b ((has_is xs b).0 k)).0)

with_all : (test : Name → Name → Bool) (names : List Name) (m b : Name) → test m b ≡ true → has names b ≡ true → Contains (pairs_with test names m) (m, b)
with_all test names m b t h =
    let f : Name → Name × Name = λ n. (m, n) in
    let xs = filter (test m) names in
    let c : Contains xs b = (has_is xs b).1 (filtered_in (test m) names b t h) in
    (c.0, omega (arith, c.1, length-map xs f), get_or-map f xs c.0 b (m, b) c.1 ∙ ap f c.2)

among_only : (test : Name → Name → Bool) (names : List Name) (a b : Name) → Contains (flat_map (pairs_with test names) names) (a, b) → test a b ≡ true
among_only test names a b c =
    let r : IsOfAll (pairs_with test names) names (a, b) = all_only (pairs_with test names) names (a, b) c in
    let w : (r.from ≡ a) × (test r.from b ≡ true) = with_only test names r.from a b r.is in
    ap (λ m. test m b) (sym w.0) ∙ w.1

among_all : (test : Name → Name → Bool) (names : List Name) (a b : Name) → has names a ≡ true → has names b ≡ true → test a b ≡ true → Contains (flat_map (pairs_with test names) names) (a, b)
among_all test names a b h k t = all_from (pairs_with test names) names a (a, b) h (with_all test names a b t k)

module _ (view : View) (changed forced replaced : List Name) (is : (m : Name) → Contains replaced m ↔ IsReplaced view changed forced m) where
  via_of : (n : Name) → (has replaced n ≡ true) ⊎ (has forced n ≡ true) → IsReplaced view changed forced n ⊎ Contains forced n
  via_of n (inl h) = inl ((is n).0 ((has_is replaced n).1 h))
  via_of n (inr h) = inr ((has_is forced n).1 h)

  via_test : (n : Name) → IsReplaced view changed forced n ⊎ Contains forced n → (has replaced n || has forced n) ≡ true
  via_test n (inl r) = or_left _ _ ((has_is replaced n).0 ((is n).1 r))
  via_test n (inr c) = or_right (has replaced n) _ ((has_is forced n).0 c)

  pair_sound : (m n : Name) → ((same_name m n && has replaced n && self_accepts view n) ≡ true) ⊎ ((accepts view m n && not (has replaced m) && (has replaced n || has forced n)) ≡ true) → IsPair view changed forced m n
  pair_sound m n (inl h) =
      let a = both_true (same_name m n && has replaced n) _ h in
      let b = both_true (same_name m n) _ a.0 in
      inl (record { same = same_true m n b.0; replaced = (is n).0 ((has_is replaced n).1 b.1); accepting = a.1 })
  pair_sound m n (inr h) =
      let a = both_true (accepts view m n && not (has replaced m)) _ h in
      let b = both_true (accepts view m n) _ a.0 in
      inr (record { accepting = b.0; stays = λ r. false≢true (sym (not_true (has replaced m) b.1) ∙ (has_is replaced m).0 ((is m).1 r)); via = via_of n (or_cases (has replaced n) (has forced n) a.1) })

  pair_complete : (m n : Name) → IsPair view changed forced m n → is_pair view replaced forced m n ≡ true
  pair_complete m n (inl p) = or_left _ _ (and_both (same_name m n && has replaced n) _ (and_both (same_name m n) _ (true_same m n p.same) ((has_is replaced n).0 ((is n).1 p.replaced))) p.accepting)
  pair_complete m n (inr p) = or_right (same_name m n && has replaced n && self_accepts view n) _
      (and_both (accepts view m n && not (has replaced m)) _ (and_both (accepts view m n) _ p.accepting (not_from (has replaced m) (λ h. p.stays ((is m).0 ((has_is replaced m).1 h))))) (via_test n p.via))

  via_named : AreIn changed view → AreIn forced view → (n : Name) → IsReplaced view changed forced n ⊎ Contains forced n → has (names_of view) n ≡ true
  via_named ofc off n (inl r) = replaced_named view changed forced ofc n r
  via_named ofc off n (inr c) = off n c

  pair_named : AreIn changed view → AreIn forced view → (m n : Name) → IsPair view changed forced m n → (has (names_of view) m ≡ true) × (has (names_of view) n ≡ true)
  pair_named ofc off m n (inl p) = (ap (has (names_of view)) p.same ∙ replaced_named view changed forced ofc n p.replaced, replaced_named view changed forced ofc n p.replaced)
  pair_named ofc off m n (inr p) = (accepter_named view m n p.accepting, via_named ofc off n p.via)

  pub pairs_are : AreIn changed view → AreIn forced view → (m n : Name) → Contains (pairs_of view replaced forced) (m, n) ↔ IsPair view changed forced m n
  pairs_are ofc off m n = (
    (λ c. pair_sound m n (or_cases (same_name m n && has replaced n && self_accepts view n) _ (among_only (is_pair view replaced forced) (sorted (names_of view)) m n c))),
    (λ q. among_all (is_pair view replaced forced) (sorted (names_of view)) m n (sorted_has _ m ∙ (pair_named ofc off m n q).0) (sorted_has _ n ∙ (pair_named ofc off m n q).1) (pair_complete m n q)),
  )
