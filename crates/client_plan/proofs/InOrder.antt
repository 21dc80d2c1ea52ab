-- Names in order, of which a repeated one stays: what a stable sort leaves is the definitions' list.
use Rattle.std.proofs.Common.{◌≡◌, ◌<◌, ◌≤◌, ℕ, zero, suc, Bool, true, false, List, [], ◌∷◌, length, get_or, refl, ap, sym, ◌∙◌, arith}
use Rattle.std.specs.Prelude.{◌&&◌, cond, filter, not, if◌then◌else◌}
use Rattle.std.specs.List.{AllByRecursion}
use Rattle.std.specs.List.Sorted.{IsSorted, IsStable, ties}
use Rattle.std.specs.declared.cmp.Ordering.{Ordering}
use Rattle.std.specs.declared.cmp.Ordering.TheVariants.{Less, Equal, Greater}
use Rattle.std.specs.Ordering.{nat_cmp, is_lt, ordering_reverse}
use Rattle.std.specs.Cmp.Lexicographic.{slice_cmp}
use Rattle.std.proofs.Math.Path.{subst}
use Rattle.std.proofs.lemmas.Bool.{false≢true}
use Rattle.std.proofs.lemmas.Cmp.{nat_list_cmp_total, tied_itself}
use Rattle.std.proofs.lemmas.List.Elements.{recursion_from_All}
use Rattle.std.proofs.lemmas.List.MinMax.{ranks_by}
use Rattle.std.proofs.lemmas.List.Sorted.{sorted_far}
use Rattle.std.proofs.lemmas.Map.Lookups.{exact_bytes}
use Rattle.core_model.specs.Names.{Name, in_order, insert_name}
use Rattle.core_model.proofs.Naming.{both_true}

-- a name is below another
abbrev below : Name → Name → Bool
below n m = is_lt (slice_cmp nat_cmp n m)

-- neither is below the other
abbrev tied : Name → Name → Bool
tied = ties below

-- no name is below one before it
abbrev Ordered : List Name → Type 0
Ordered [] = Unit {0}
Ordered (x ∷ xs) = AllByRecursion (λ y. below y x ≡ false) xs × Ordered xs

not_less : (o : Ordering) → o ≡ ordering_reverse o → is_lt o ≡ false
not_less Less e = absurd (cc)
not_less Equal e = refl
not_less Greater e = refl

-- two names of which neither is below the other are one
tied_same : (n m : Name) → tied n m ≡ true → n ≡ m
tied_same n m t = by (slice_cmp nat_cmp n m) refl (both_true (not (below n m)) (not (below m n)) t)
  where
    by : (o : Ordering) → slice_cmp nat_cmp n m ≡ o → (not (below n m) ≡ true) × (not (below m n) ≡ true) → n ≡ m
    by Less e h = absurd (false≢true (sym (ap (λ o. not (is_lt o)) e) ∙ h.0))
    by Equal e h = exact_bytes n m e
    by Greater e h = absurd (false≢true (sym (ap (λ o. not (is_lt o)) (nat_list_cmp_total.antisymm m n ∙ ap ordering_reverse e)) ∙ h.1))

apart_itself : (n : Name) → below n n ≡ false
apart_itself n = ap is_lt (tied_itself nat_list_cmp_total n)

tied_self : (n : Name) → tied n n ≡ true
tied_self n = ap (λ b. not b && not b) (apart_itself n)

not_back : (n m : Name) → below m n ≡ true → below n m ≡ false
not_back n m h = by (slice_cmp nat_cmp m n) refl h
  where
    by : (o : Ordering) → slice_cmp nat_cmp m n ≡ o → is_lt o ≡ true → below n m ≡ false
    by Less e l = ap is_lt (nat_list_cmp_total.antisymm n m ∙ ap ordering_reverse e)
    by Equal e l = absurd (false≢true l)
    by Greater e l = absurd (false≢true l)

chain : (x y z : Name) → below x y ≡ false → below y z ≡ false → below x z ≡ false
chain = (ranks_by nat_list_cmp_total (λ (n : Name). n)).chain

-- A name that is inserted.

swap_kept : (x n m : Name) (a b : Bool) (rest : List Name) → tied x n ≡ a → tied x m ≡ b → below m n ≡ true
    → cond b (m ∷ cond a (n ∷ rest) rest) (cond a (n ∷ rest) rest) ≡ cond a (n ∷ cond b (m ∷ rest) rest) (cond b (m ∷ rest) rest)
swap_kept x n m true true rest e f l =
    let same : m ≡ n = sym (tied_same x m f) ∙ tied_same x n e in
    absurd (false≢true (sym (apart_itself n) ∙ ap (λ k. below k n) (sym same) ∙ l))
swap_kept x n m true false rest e f l = refl
swap_kept x n m false true rest e f l = refl
swap_kept x n m false false rest e f l = refl

-- what ties with a name is kept in its order
insert_kept : (x n : Name) (names : List Name) → filter (tied x) (insert_name n names) ≡ filter (tied x) (n ∷ names)
insert_kept x n [] = refl
insert_kept x n (m ∷ names) = by (below m n) refl (insert_kept x n names)
  where
    by : (b : Bool) → below m n ≡ b → filter (tied x) (insert_name n names) ≡ filter (tied x) (n ∷ names) → filter (tied x) (if b then m ∷ insert_name n names else n ∷ (m ∷ names)) ≡ filter (tied x) (n ∷ (m ∷ names))
    by true l more = ap (λ rest. cond (tied x m) (m ∷ rest) rest) more ∙ swap_kept x n m (tied x n) (tied x m) (filter (tied x) names) refl refl l
    by false l more = refl

order_kept : (x : Name) (names : List Name) → filter (tied x) (in_order names) ≡ filter (tied x) names
order_kept x [] = refl
order_kept x (n ∷ names) = insert_kept x n (in_order names) ∙ ap (λ rest. cond (tied x n) (n ∷ rest) rest) (order_kept x names)

all_inserted : (P : Name → Type 0) (n : Name) (names : List Name) → P n → AllByRecursion P names → AllByRecursion P (insert_name n names)
all_inserted P n [] p all = (p, tt)
all_inserted P n (m ∷ names) p all = by (below m n) (all_inserted P n names p all.1)
  where
    by : (b : Bool) → AllByRecursion P (insert_name n names) → AllByRecursion P (if b then m ∷ insert_name n names else n ∷ (m ∷ names))
    by true more = (all.0, more)
    by false more = (p, all)

all_chained : (m n : Name) (names : List Name) → below m n ≡ false → AllByRecursion (λ y. below y m ≡ false) names → AllByRecursion (λ y. below y n ≡ false) names
all_chained m n [] l all = tt
all_chained m n (k ∷ names) l all = (chain k m n all.0 l, all_chained m n names l all.1)

insert_ordered : (n : Name) (names : List Name) → Ordered names → Ordered (insert_name n names)
insert_ordered n [] o = (tt, tt)
insert_ordered n (m ∷ names) o = by (below m n) refl (insert_ordered n names o.1)
  where
    by : (b : Bool) → below m n ≡ b → Ordered (insert_name n names) → Ordered (if b then m ∷ insert_name n names else n ∷ (m ∷ names))
    by true l more = (all_inserted (λ y. below y m ≡ false) n names (not_back n m l) o.0, more)
    by false l more = ((l, all_chained m n names l o.0), o)

order_ordered : (names : List Name) → Ordered (in_order names)
order_ordered [] = tt
order_ordered (n ∷ names) = insert_ordered n (in_order names) (order_ordered names)

-- Lists in order in which the same names tie.

kept_self : (n : Name) (names : List Name) → filter (tied n) (n ∷ names) ≡ n ∷ filter (tied n) names
kept_self n names = ap (λ b. cond b (n ∷ filter (tied n) names) (filter (tied n) names)) (tied_self n)

found : (P : Name → Type 0) (x : Name) (names rest : List Name) → AllByRecursion P names → filter (tied x) names ≡ x ∷ rest → P x
found P x [] rest all e = absurd (cc)
found P x (m ∷ names) rest all e = by (tied x m) refl (λ f. found P x names rest all.1 f) e
  where
    by : (b : Bool) → tied x m ≡ b → (filter (tied x) names ≡ x ∷ rest → P x) → cond b (m ∷ filter (tied x) names) (filter (tied x) names) ≡ x ∷ rest → P x
    by true t more f = subst P (sym (tied_same x m t)) all.0
    by false t more f = more f

tails : (x y : Name) (a b : Bool) (xs ys : List Name) → a ≡ b → cond a (x ∷ xs) xs ≡ cond b (y ∷ ys) ys → xs ≡ ys
tails x y true true xs ys e f = cc
tails x y true false xs ys e f = absurd (false≢true (sym e))
tails x y false true xs ys e f = absurd (false≢true e)
tails x y false false xs ys e f = f

same_ordered : (xs ys : List Name) → Ordered xs → Ordered ys → ((z : Name) → filter (tied z) xs ≡ filter (tied z) ys) → xs ≡ ys
same_ordered [] [] o p f = refl
same_ordered [] (y ∷ ys) o p f = let e : [] ≡ y ∷ filter (tied y) ys = f y ∙ kept_self y ys in absurd (cc)
same_ordered (x ∷ xs) [] o p f = let e : [] ≡ x ∷ filter (tied x) xs = sym (f x) ∙ kept_self x xs in absurd (cc)
same_ordered (x ∷ xs) (y ∷ ys) o p f =
    let up : below x y ≡ false = found (λ z. below z y ≡ false) x (y ∷ ys) (filter (tied x) xs) (apart_itself y, p.0) (sym (f x) ∙ kept_self x xs) in
    let down : below y x ≡ false = found (λ z. below z x ≡ false) y (x ∷ xs) (filter (tied y) ys) (apart_itself x, o.0) (f y ∙ kept_self y ys) in
    let same : x ≡ y = tied_same x y (ap (λ b. not b && not (below y x)) up ∙ ap (λ b. not false && not b) down) in
    ap (λ n. n ∷ xs) same ∙ ap (λ names. y ∷ names) (same_ordered xs ys o.1 p.1 (λ z. tails x y (tied z x) (tied z y) (filter (tied z) xs) (filter (tied z) ys) (ap (tied z) same) (f z)))

ordered_from : (names : List Name) → ((i j : ℕ) (d : Name) → i ≤ j → j < length names → below (get_or names j d) (get_or names i d) ≡ false) → Ordered names
ordered_from [] far = tt
ordered_from (n ∷ names) far = (
  recursion_from_All (λ y. below y n ≡ false) names (λ j d inside. far zero (suc j) d (omega arith) (omega arith)),
  ordered_from names (λ i j d le inside. far (suc i) (suc j) d (omega arith) (omega arith)),
)

-- what a stable sort leaves
pub sorted_in_order : (names moved : List Name) → IsSorted (slice_cmp nat_cmp) moved → IsStable (slice_cmp nat_cmp) names moved → moved ≡ in_order names
sorted_in_order names moved s kept =
    same_ordered moved (in_order names)
    (ordered_from moved (λ i j d le inside. sorted_far below (ranks_by nat_list_cmp_total (λ (n : Name). n)) moved s i j d le inside))
    (order_ordered names)
    (λ z. kept z ∙ sym (order_kept z names))
