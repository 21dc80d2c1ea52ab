-- Lists of names that rise: there is one with given names, and it is the sorted list of them.
use Rattle.std.proofs.Common.{◌≡◌, ◌⊎◌, inl, inr, Bool, true, false, List, [], ◌∷◌, refl, ap, sym, ◌∙◌}
use Rattle.std.specs.Prelude.{◌||◌, IsPermutation, IsSorted, if◌then◌else◌}
use Rattle.std.specs.List.{AllByRecursion, dedup}
use Rattle.std.specs.List.Sorted.{IsStrictlySortedBy}
use Rattle.std.specs.declared.cmp.Ordering.{Ordering}
use Rattle.std.specs.declared.cmp.Ordering.TheVariants.{Less, Equal, Greater}
use Rattle.std.specs.Ordering.{nat_cmp, is_lt, ordering_reverse}
use Rattle.std.specs.Cmp.Lexicographic.{slice_cmp, texts_ties}
use Rattle.std.proofs.Math.Path.{subst}
use Rattle.std.proofs.lemmas.Bool.{false≢true}
use Rattle.std.proofs.lemmas.Cmp.{nat_list_cmp_total, nat_list_eq_equiv}
use Rattle.std.proofs.lemmas.Map.Keys.{sorted_head, sorted_tail}
use Rattle.std.proofs.lemmas.Map.Lookups.{exact_bytes}
use Rattle.std.proofs.lemmas.List.Kept.{IsStrictlySortedBy-dedup, Contains-dedup, Contains-from_dedup}
use Rattle.std.proofs.lemmas.List.Sorted.{Contains-permutation, IsPermutation-sym}
use Prim.{⊥}
use Rattle.core_model.specs.Names.{Name, same_name, has, put_name, sorted}
use Rattle.core_model.proofs.Naming.{same_true, true_same, has_is, or_cases, or_left, or_right, same_test, put_has, sorted_has}

-- each name is below the next
abbrev pub IsRising : List Name → Type 0
IsRising = IsStrictlySortedBy (slice_cmp nat_cmp)

abbrev order : Name → Name → Ordering
order = slice_cmp nat_cmp

from_case : (P : Name → Type 0) (x n : Name) → P x → {b : Bool} → (b ≡ true → P n) → (same_name x n ≡ true) ⊎ (b ≡ true) → P n
from_case P x n p f (inl e) = subst P (same_true x n e) p
from_case P x n p f (inr h) = f h

from_all : (P : Name → Type 0) (xs : List Name) → AllByRecursion P xs → (n : Name) → has xs n ≡ true → P n
from_all P [] all n h = absurd (false≢true h)
from_all P (x ∷ xs) all n h = from_case P x n all.0 (from_all P xs all.1 n) (or_cases (same_name x n) (has xs n) h)

to_all : (P : Name → Type 0) (xs : List Name) → ((n : Name) → has xs n ≡ true → P n) → AllByRecursion P xs
to_all P [] f = tt
to_all P (x ∷ xs) f = (f x (or_left (same_name x x) (has xs x) (true_same x x refl)), to_all P xs (λ n h. f n (or_right (same_name x n) (has xs n) h)))

below : (x : Name) (xs : List Name) → IsRising (x ∷ xs) → (n : Name) → has xs n ≡ true → order x n ≡ Less
below x xs s n h = from_all (λ y. order x y ≡ Less) xs (sorted_head order x xs s) n h

less_apart : (x : Name) → order x x ≡ Less → ⊥
less_apart x h = turned (order x x) (nat_list_cmp_total.antisymm x x) h
  where
    turned : (o : Ordering) → o ≡ ordering_reverse o → o ≡ Less → ⊥
    turned Less e h = absurd (cc)
    turned Equal e h = absurd (cc)
    turned Greater e h = absurd (cc)

both_less : (x y : Name) → order x y ≡ Less → order y x ≡ Less → ⊥
both_less x y h k = less_apart x (nat_list_cmp_total.trans x y x h k)

cons_rising : (x : Name) (xs : List Name) → ((n : Name) → has xs n ≡ true → order x n ≡ Less) → IsRising xs → IsRising (x ∷ xs)
unfolding IsStrictlySortedBy
cons_rising x xs f s = (to_all (λ y. order x y ≡ Less) xs f, s)

-- heads of rising lists with the same names
heads : (x y : Name) (xs ys : List Name) → IsRising (x ∷ xs) → IsRising (y ∷ ys) → (same_name y x ≡ true) ⊎ (has ys x ≡ true) → (same_name x y ≡ true) ⊎ (has xs y ≡ true) → x ≡ y
heads x y xs ys s t (inl e) k = sym (same_true y x e)
heads x y xs ys s t (inr h) (inl e) = same_true x y e
heads x y xs ys s t (inr h) (inr k) = absurd (both_less x y (below x xs s y k) (below y ys t x h))

or_same : (b p q : Bool) → (b ≡ true → p ≡ q) → (b || p) ≡ (b || q) → p ≡ q
or_same true p q f h = f refl
or_same false p q f h = h

is_false : (b : Bool) → (b ≡ true → ⊥) → b ≡ false
is_false true f = absurd (f refl)
is_false false f = refl

-- a rising list hasn't its head behind it
not_behind : (x : Name) (xs : List Name) → IsRising (x ∷ xs) → (n : Name) → x ≡ n → has xs n ≡ false
not_behind x xs s n e = is_false (has xs n) (λ h. less_apart x (subst (λ m. order x m ≡ Less) (sym e) (below x xs s n h)))

has_head : (x : Name) (xs : List Name) → has (x ∷ xs) x ≡ true
has_head x xs = or_left (same_name x x) (has xs x) (true_same x x refl)

tails : (x y : Name) (xs ys : List Name) → x ≡ y → IsRising (x ∷ xs) → IsRising (y ∷ ys) → ((n : Name) → has (x ∷ xs) n ≡ has (y ∷ ys) n) → (n : Name) → has xs n ≡ has ys n
tails x y xs ys e s t f n = or_same (same_name x n) (has xs n) (has ys n)
    (λ h. not_behind x xs s n (same_true x n h) ∙ sym (not_behind y ys t n (sym e ∙ same_true x n h)))
    (f n ∙ ap (λ k. same_name k n || has ys n) (sym e))

-- rising lists with the same names are the same
pub same_rising : (xs ys : List Name) → IsRising xs → IsRising ys → ((n : Name) → has xs n ≡ has ys n) → xs ≡ ys
same_rising [] [] s t f = refl
same_rising [] (y ∷ ys) s t f = absurd (false≢true (f y ∙ has_head y ys))
same_rising (x ∷ xs) [] s t f = absurd (false≢true (sym (f x) ∙ has_head x xs))
same_rising (x ∷ xs) (y ∷ ys) s t f =
    let e : x ≡ y = heads x y xs ys s t (or_cases (same_name y x) (has ys x) (sym (f x) ∙ has_head x xs)) (or_cases (same_name x y) (has xs y) (f y ∙ has_head y ys)) in
    ap (λ k. k ∷ xs) e ∙ ap (λ l. y ∷ l) (same_rising xs ys (sorted_tail order x xs s) (sorted_tail order y ys t) (tails x y xs ys e s t f))

less_from : (o : Ordering) → is_lt o ≡ true → o ≡ Less
less_from Less h = refl
less_from Equal h = absurd (false≢true h)
less_from Greater h = absurd (false≢true h)

turned_less : (n m : Name) (o : Ordering) → order n m ≡ o → is_lt o ≡ false → same_name n m ≡ false → order m n ≡ Less
turned_less n m Less e l s = absurd (false≢true (sym l))
turned_less n m Equal e l s = absurd (false≢true (sym s ∙ true_same n m (exact_bytes n m e)))
turned_less n m Greater e l s = nat_list_cmp_total.antisymm m n ∙ ap ordering_reverse e

put_rises : (n m : Name) (names : List Name) (same low : Bool) → same_name n m ≡ same → is_lt (order n m) ≡ low → IsRising (m ∷ names) → IsRising (put_name n names) → IsRising (if same then m ∷ names else (if low then n ∷ (m ∷ names) else m ∷ put_name n names))
put_rises n m names true low e l s t = s
put_rises n m names false true e l s t = cons_rising n (m ∷ names)
    (λ k h. from_case (λ j. order n j ≡ Less) m k (less_from _ l) (λ g. nat_list_cmp_total.trans n m k (less_from _ l) (below m names s k g)) (or_cases (same_name m k) (has names k) h)) s
put_rises n m names false false e l s t = cons_rising m (put_name n names)
    (λ k h. from_case (λ j. order m j ≡ Less) n k (turned_less n m (order n m) refl l e) (below m names s k) (or_cases (same_name n k) (has names k) (sym (put_has n names k) ∙ h))) t

pub none_rises : IsRising []
unfolding IsStrictlySortedBy
none_rises = tt

one_rises : (n : Name) → IsRising (n ∷ [])
one_rises n = cons_rising n [] (λ k h. absurd (false≢true h)) none_rises

pub put_rising : (n : Name) (names : List Name) → IsRising names → IsRising (put_name n names)
put_rising n [] s = one_rises n
put_rising n (m ∷ names) s = put_rises n m names (same_name n m) (is_lt (order n m)) refl refl s (put_rising n names (sorted_tail order m names s))

-- the sorted list rises
pub sorted_rising : (names : List Name) → IsRising (sorted names)
sorted_rising [] = none_rises
sorted_rising (n ∷ names) = put_rising n (sorted names) (sorted_rising names)

-- a rising list is the sorted list of what has its names
pub rising_is_sorted : (xs names : List Name) → IsRising xs → ((n : Name) → has xs n ≡ has names n) → xs ≡ sorted names
rising_is_sorted xs names s f = same_rising xs (sorted names) s (sorted_rising names) (λ n. f n ∙ sym (sorted_has names n))

-- what is left of a list that was put in order, of equal names the first
pub deduped : (names moved : List Name) → IsPermutation names moved → IsSorted (slice_cmp nat_cmp) moved → dedup same_name moved ≡ sorted names
deduped names moved p s = rising_is_sorted (dedup same_name moved) names
    (IsStrictlySortedBy-dedup nat_list_cmp_total (λ x y. texts_ties x y) moved s)
    (λ n. same_test _ _
    (λ h. (has_is names n).0 (Contains-permutation _ _ n (IsPermutation-sym _ _ p) (Contains-from_dedup same_name moved n ((has_is (dedup same_name moved) n).1 h))))
    (λ h. (has_is (dedup same_name moved) n).0 (Contains-dedup nat_list_eq_equiv same_true moved n (Contains-permutation _ _ n p ((has_is names n).1 h)))))
