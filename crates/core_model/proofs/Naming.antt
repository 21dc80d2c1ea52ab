-- Names in lists: the test for a name, and what filters, joins and sorting keep.
use Rattle.std.proofs.Common.{◌≡◌, ◌↔◌, ◌⊎◌, inl, inr, suc, Bool, true, false, List, [], ◌∷◌, ◌++◌, refl, ap, sym, ◌∙◌, arith, Contains}
use Rattle.std.specs.Prelude.{filter, ◌&&◌, ◌||◌, not, if◌then◌else◌, Some, None, is_some}
use Rattle.std.specs.List.{list_any}
use Rattle.std.specs.Cmp.{IsEquivalence}
use Rattle.std.specs.Cmp.Lexicographic.{slice_cmp, bytes_decides}
use Rattle.std.specs.Ordering.{nat_cmp, is_lt}
use Rattle.std.proofs.Math.Bool.{or_assoc}
use Rattle.std.proofs.lemmas.Bool.{false≢true}
use Rattle.std.proofs.lemmas.Cmp.{nat_list_eq_equiv}
use Rattle.std.proofs.lemmas.Map.Views.{any-filter_same, Contains-from_any, list_any-from_Contains}
use Rattle.std.proofs.lemmas.Option.{same_Some}
use Prim.{⊥}
use Rattle.core_model.specs.Names.{Name, same_name, has, put_name, sorted, first_of}

pub cases_bool : (b : Bool) → (b ≡ true) ⊎ (b ≡ false)
cases_bool true = inl refl
cases_bool false = inr refl

pub both_true : (a b : Bool) → (a && b) ≡ true → (a ≡ true) × (b ≡ true)
both_true true b h = (refl, h)
both_true false b h = absurd (false≢true h)

pub and_both : (a b : Bool) → a ≡ true → b ≡ true → (a && b) ≡ true
and_both a b h k = ap (λ c. c && b) h ∙ k

pub or_cases : (a b : Bool) → (a || b) ≡ true → (a ≡ true) ⊎ (b ≡ true)
or_cases true b h = inl refl
or_cases false b h = inr h

pub or_left : (a b : Bool) → a ≡ true → (a || b) ≡ true
or_left a b h = ap (λ c. c || b) h

pub or_right : (a b : Bool) → b ≡ true → (a || b) ≡ true
or_right true b h = refl
or_right false b h = h

pub not_true : (b : Bool) → not b ≡ true → b ≡ false
not_true true h = absurd (false≢true h)
not_true false h = refl

pub not_false : (b : Bool) → not b ≡ false → b ≡ true
not_false true h = refl
not_false false h = sym h

pub not_from : (b : Bool) → (b ≡ true → ⊥) → not b ≡ true
not_from true f = absurd (f refl)
not_from false f = refl

pub true_from : (b : Bool) → (not b ≡ true → ⊥) → b ≡ true
true_from true f = refl
true_from false f = absurd (f refl)

pub false_from : (b : Bool) → (b ≡ true → ⊥) → b ≡ false
false_from true f = absurd (f refl)
false_from false f = refl

pub neither : (a b : Bool) → (a || b) ≡ false → (a ≡ false) × (b ≡ false)
neither true b h = absurd (false≢true (sym h))
neither false b h = (refl, h)

pub and_last : (a b : Bool) → b ≡ false → (a && b) ≡ false
and_last true b h = h
and_last false b h = refl

-- two tests that hold together are equal
pub same_test : (a b : Bool) → (a ≡ true → b ≡ true) → (b ≡ true → a ≡ true) → a ≡ b
same_test true b f g = sym (f refl)
same_test false true f g = g refl
same_test false false f g = refl

-- names that the test takes for the same are the same
pub same_true : (n m : Name) → same_name n m ≡ true → n ≡ m
same_true n m h = (bytes_decides n m).0 h

pub true_same : (n m : Name) → n ≡ m → same_name n m ≡ true
true_same n m e = (bytes_decides n m).1 e

pub turned_equiv : IsEquivalence {K = Name} (λ a b. same_name b a)
turned_equiv = record { refl = nat_list_eq_equiv.refl; symm = λ x y. nat_list_eq_equiv.symm y x; congr = λ x y z e. nat_list_eq_equiv.symm z x ∙ nat_list_eq_equiv.congr x y z (nat_list_eq_equiv.symm x y ∙ e) ∙ nat_list_eq_equiv.symm y z }

-- the test for a name in a list
pub has_is : (names : List Name) (n : Name) → Contains names n ↔ (has names n ≡ true)
has_is names n = (list_any-from_Contains {eq = λ a b. same_name b a} turned_equiv n names, Contains-from_any {eq = λ a b. same_name b a} (λ a b e. sym (same_true b a e)) n names)

pub filtered_has : (p : Name → Bool) (names : List Name) (m : Name) → has (filter p names) m ≡ (p m && has names m)
filtered_has p names m = any-filter_same (λ n. same_name n m) p (p m) (λ k e. ap p (same_true k m e)) names

pub filtered_in : (p : Name → Bool) (names : List Name) (m : Name) → p m ≡ true → has names m ≡ true → has (filter p names) m ≡ true
filtered_in p names m e h = filtered_has p names m ∙ and_both (p m) (has names m) e h

pub filtered_from : (p : Name → Bool) (names : List Name) (m : Name) → has (filter p names) m ≡ true → (p m ≡ true) × (has names m ≡ true)
filtered_from p names m h = both_true (p m) (has names m) (sym (filtered_has p names m) ∙ h)

pub has_append : (xs ys : List Name) (m : Name) → has (xs ++ ys) m ≡ (has xs m || has ys m)
has_append [] ys m = refl
has_append (x ∷ xs) ys m = ap (λ b. same_name x m || b) (has_append xs ys m) ∙ sym (or_assoc (same_name x m) (has xs m) (has ys m))

-- The first name, and one more at the end.

pub head_has : (n : Name) (names : List Name) → has (n ∷ names) n ≡ true
head_has n names = or_left (same_name n n) (has names n) (true_same n n refl)

pub tail_has : (n : Name) (names : List Name) (m : Name) → has names m ≡ true → has (n ∷ names) m ≡ true
tail_has n names m h = or_right (same_name n m) (has names m) h

pub has_cases : (n : Name) (names : List Name) (m : Name) → has (n ∷ names) m ≡ true → (n ≡ m) ⊎ (has names m ≡ true)
has_cases n names m h = by (or_cases (same_name n m) (has names m) h)
  where
    by : (same_name n m ≡ true) ⊎ (has names m ≡ true) → (n ≡ m) ⊎ (has names m ≡ true)
    by (inl s) = inl (same_true n m s)
    by (inr t) = inr t

pub no_names : (names : List Name) → ((n : Name) → has names n ≡ true → ⊥) → names ≡ []
no_names [] f = refl
no_names (n ∷ names) f = absurd (f n (head_has n names))

pub first_has : (names : List Name) (n : Name) → first_of names ≡ Some n → has names n ≡ true
first_has [] n e = absurd (false≢true (ap is_some e))
first_has (m ∷ names) n e = or_left (same_name m n) _ (true_same m n (same_Some m n e))

pub none_first : (names : List Name) → first_of names ≡ None → names ≡ []
none_first [] e = refl
none_first (n ∷ names) e = absurd (false≢true (sym (ap is_some e)))

pub has_more : (names : List Name) (n m : Name) → has (names ++ n ∷ []) m ≡ (has names m || (same_name n m || false))
has_more names n m = has_append names (n ∷ []) m

pub more_left : (names : List Name) (n m : Name) → has names m ≡ true → has (names ++ n ∷ []) m ≡ true
more_left names n m h = has_more names n m ∙ or_left (has names m) _ h

pub more_last : (names : List Name) (n : Name) → has (names ++ n ∷ []) n ≡ true
more_last names n = has_more names n n ∙ or_right (has names n) _ (head_has n [])

pub more_cases : (names : List Name) (n m : Name) → has (names ++ n ∷ []) m ≡ true → (has names m ≡ true) ⊎ (n ≡ m)
more_cases names n m h = by (or_cases (has names m) _ (sym (has_more names n m) ∙ h))
  where
    by_last : (n ≡ m) ⊎ (has [] m ≡ true) → (has names m ≡ true) ⊎ (n ≡ m)
    by_last (inl e) = inr e
    by_last (inr t) = absurd (false≢true t)

    by : (has names m ≡ true) ⊎ (has (n ∷ []) m ≡ true) → (has names m ≡ true) ⊎ (n ≡ m)
    by (inl a) = inl a
    by (inr b) = by_last (has_cases n [] m b)

-- A name that passes a test.

or_go : (a b c d : Bool) → (a ≡ true → c ≡ true) → (b ≡ true → d ≡ true) → (a || b) ≡ true → (c || d) ≡ true
or_go a b true d f g h = refl
or_go true b false d f g h = absurd (false≢true (f refl))
or_go false b false d f g h = g h

-- a name of the list that passes the test
pub any_from : (bad : Name → Bool) (names : List Name) (m : Name) → has names m ≡ true → bad m ≡ true → list_any bad names ≡ true
any_from bad [] m h e = h
any_from bad (x ∷ xs) m h e = or_go (same_name x m) (has xs m) (bad x) (list_any bad xs) (λ t. ap bad (same_true x m t) ∙ e) (λ t. any_from bad xs m t e) h

pub record Found (bad : Name → Bool) (names : List Name) : Type 0 where
  pub name : Name
  pub there : Contains names name
  pub passing : bad name ≡ true

any_step : (bad : Name → Bool) (x : Name) (xs : List Name) → (bad x ≡ true) ⊎ (bad x ≡ false) → (list_any bad xs ≡ true → Found bad xs) → (bad x || list_any bad xs) ≡ true → Found bad (x ∷ xs)
any_step bad x xs (inl t) f h = record { name = x; there = (0, omega arith, refl); passing = t }
any_step bad x xs (inr e) f h =
    let r : Found bad xs = f (ap (λ b. b || list_any bad xs) (sym e) ∙ h) in
    record { name = r.name; there = (suc r.there.0, omega (arith, r.there.1), r.there.2); passing = r.passing }

pub any_is : (bad : Name → Bool) (names : List Name) → list_any bad names ≡ true → Found bad names
any_is bad [] h = absurd (false≢true h)
any_is bad (x ∷ xs) h = any_step bad x xs (cases_bool (bad x)) (any_is bad xs) h

-- Sorting keeps the names.

or_swap : (a b c : Bool) → (a || (b || c)) ≡ (b || (a || c))
or_swap true true c = refl
or_swap true false c = refl
or_swap false true c = refl
or_swap false false c = refl

or_twice : (a b : Bool) → (a || b) ≡ (a || (a || b))
or_twice true b = refl
or_twice false b = refl

put_step : (m n : Name) (names : List Name) (k : Name) (same low : Bool) → (same ≡ true → m ≡ n) → has (put_name m names) k ≡ (same_name m k || has names k) → has (if same then n ∷ names else (if low then m ∷ (n ∷ names) else n ∷ put_name m names)) k ≡ (same_name m k || (same_name n k || has names k))
put_step m n names k true low e h = or_twice (same_name n k) (has names k) ∙ ap (λ j. same_name j k || (same_name n k || has names k)) (sym (e refl))
put_step m n names k false true e h = refl
put_step m n names k false false e h = ap (λ b. same_name n k || b) h ∙ or_swap (same_name n k) (same_name m k) (has names k)

pub put_has : (m : Name) (names : List Name) (k : Name) → has (put_name m names) k ≡ (same_name m k || has names k)
put_has m [] k = refl
put_has m (n ∷ names) k = put_step m n names k (same_name m n) (is_lt (slice_cmp nat_cmp m n)) (same_true m n) (put_has m names k)

pub sorted_has : (names : List Name) (k : Name) → has (sorted names) k ≡ has names k
sorted_has [] k = refl
sorted_has (n ∷ names) k = put_has n (sorted names) k ∙ ap (λ b. same_name n k || b) (sorted_has names k)
