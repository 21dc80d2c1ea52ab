-- Lists of entries by name: what is left out, and lists that rise.
use Rattle.std.proofs.Common.{◌≡◌, ◌⊎◌, inl, inr, Bool, true, false, List, [], ◌∷◌, refl, ap, sym, ◌∙◌}
use Rattle.std.specs.Prelude.{◌||◌, filter, cond, not, Option, Some, None, is_some, if◌then◌else◌}
use Prim.{⊥}
use Rattle.std.proofs.lemmas.Bool.{false≢true}
use Rattle.std.proofs.lemmas.Option.{same_Some}
use Rattle.std.specs.Ordering.{nat_cmp, is_lt, ordering_reverse}
use Rattle.std.specs.Cmp.Lexicographic.{slice_cmp}
use Rattle.std.proofs.lemmas.Cmp.{nat_list_cmp_total}
use Rattle.core_model.specs.Names.{Name, same_name, has, at, without_all, names_of, rising}
use Rattle.core_model.proofs.Naming.{same_true, true_same, both_true, and_both, filtered_in}
use Rattle.core_model.proofs.Rising.{less_is, through, left_out, tail_rises}
use Rattle.core_model.proofs.Tables.{both_ways, filtered_row, without_step, named}

-- nothing passes an empty filter
pub none_pass : (p : Name → Bool) (names : List Name) → filter p names ≡ [] → (n : Name) → has names n ≡ true → p n ≡ false
none_pass p names e n h = by_test (p n) (λ t. filtered_in p names n t h)
  where
    by_test : (b : Bool) → (b ≡ true → has (filter p names) n ≡ true) → b ≡ false
    by_test true f = absurd (false≢true (sym (ap (λ l. has l n) e) ∙ f refl))
    by_test false f = refl

abbrev Below : Name → Name → Type 0
Below n m = is_lt (slice_cmp nat_cmp n m) ≡ true

not_itself : (n : Name) → Below n n → ⊥
not_itself n h = false≢true (sym (ap (λ o. is_lt (ordering_reverse o)) (less_is (slice_cmp nat_cmp n n) h)) ∙ sym (ap is_lt (nat_list_cmp_total.antisymm n n)) ∙ h)

-- each later name of a rising list is above the first
above : (k : Name) (names : List Name) → rising (k ∷ names) ≡ true → (n : Name) → has names n ≡ true → Below k n
above k [] r n h = absurd (false≢true h)
above k (m ∷ names) r n h = by_test (same_name m n) (same_true m n) h (above k names (left_out k m names r) n)
  where
    by_test : (b : Bool) → (b ≡ true → m ≡ n) → (b || has names n) ≡ true → (has names n ≡ true → Below k n) → Below k n
    by_test true e g f = ap (λ j. is_lt (slice_cmp nat_cmp k j)) (sym (e refl)) ∙ (both_true (is_lt (slice_cmp nat_cmp k m)) _ r).0
    by_test false e g f = f g

one_first : (x y : Name) → (y ≡ x) ⊎ Below y x → (x ≡ y) ⊎ Below x y → x ≡ y
one_first x y (inl e) g = sym e
one_first x y (inr h) (inl e) = e
one_first x y (inr h) (inr g) = absurd (not_itself x (through x y x g h))

module _ {X : Type 0} where
  -- the entries of other names than these, looked up
  pub at_without_all : (names : List Name) (rows : List (Name × X)) (m : Name) → at (without_all names rows) m ≡ (if has names m then None else at rows m)
  at_without_all names [] m = both_ways (has names m) None
  at_without_all names (row ∷ rows) m = filtered_row (not (has names row.0)) row (without_all names rows) m
      ∙ without_step (has names row.0) (same_name row.0 m) (has names m) row.1 (at rows m) (at (without_all names rows) m) (λ e. ap (has names) (same_true row.0 m e)) (at_without_all names rows m)

  kept_behind : (keep : Name × X → Bool) (k : Name) (rows : List (Name × X)) → rising (k ∷ names_of rows) ≡ true → rising (k ∷ names_of (filter keep rows)) ≡ true
  kept_behind keep k [] r = refl
  kept_behind keep k (row ∷ rows) r = by_test (keep row) (kept_behind keep row.0 rows (both_true (is_lt (slice_cmp nat_cmp k row.0)) _ r).1) (kept_behind keep k rows (left_out k row.0 (names_of rows) r))
    where
      by_test : (b : Bool) → rising (row.0 ∷ names_of (filter keep rows)) ≡ true → rising (k ∷ names_of (filter keep rows)) ≡ true → rising (k ∷ names_of (cond b (row ∷ filter keep rows) (filter keep rows))) ≡ true
      by_test true f g = and_both _ _ (both_true (is_lt (slice_cmp nat_cmp k row.0)) _ r).0 f
      by_test false f g = g

  -- what is left of entries that rise by name rises
  pub kept_rises : (keep : Name × X → Bool) (rows : List (Name × X)) → rising (names_of rows) ≡ true → rising (names_of (filter keep rows)) ≡ true
  kept_rises keep [] r = refl
  kept_rises keep (row ∷ rows) r = by_test (keep row) (kept_rises keep rows (tail_rises row.0 (names_of rows) r))
    where
      by_test : (b : Bool) → rising (names_of (filter keep rows)) ≡ true → rising (names_of (cond b (row ∷ filter keep rows) (filter keep rows))) ≡ true
      by_test true f = kept_behind keep row.0 rows r
      by_test false f = f

  first_entry : (row : Name × X) (rows : List (Name × X)) → at (row ∷ rows) row.0 ≡ Some row.1
  first_entry row rows = ap (λ b. if b then Some row.1 else at rows row.0) (true_same row.0 row.0 refl)

  -- the first name of one list is in the other, so it is the other's first, or above it
  first_or_above : (x : Name) (row : Name × X) (rows : List (Name × X)) → rising (names_of (row ∷ rows)) ≡ true → is_some (at (row ∷ rows) x) ≡ true → (row.0 ≡ x) ⊎ Below row.0 x
  first_or_above x row rows r h = by_test (same_name row.0 x) (same_true row.0 x) (sym (named (row ∷ rows) x) ∙ h)
    where
      by_test : (b : Bool) → (b ≡ true → row.0 ≡ x) → (b || has (names_of rows) x) ≡ true → (row.0 ≡ x) ⊎ Below row.0 x
      by_test true e g = inl (e refl)
      by_test false e g = inr (above row.0 (names_of rows) r x g)

  not_later : (row : Name × X) (rows : List (Name × X)) → rising (names_of (row ∷ rows)) ≡ true → at rows row.0 ≡ None
  not_later row rows r = by_test (has (names_of rows) row.0) (above row.0 (names_of rows) r row.0) (at rows row.0) (named rows row.0)
    where
      by_test : (b : Bool) → (b ≡ true → Below row.0 row.0) → (o : Option X) → is_some o ≡ b → o ≡ None
      by_test b f None e = refl
      by_test true f (Some x) e = absurd (not_itself row.0 (f refl))
      by_test false f (Some x) e = absurd (false≢true (sym e))

  rest_same : (x y : Name × X) (a b : List (Name × X)) → x.0 ≡ y.0 → rising (names_of (x ∷ a)) ≡ true → rising (names_of (y ∷ b)) ≡ true → (n : Name) → at (x ∷ a) n ≡ at (y ∷ b) n → at a n ≡ at b n
  rest_same x y a b e r q n h = by_test (same_name x.0 n) (same_true x.0 n) (same_name y.0 n) (ap (λ k. same_name k n) e) h
    where
      by_test : (c : Bool) → (c ≡ true → x.0 ≡ n) → (d : Bool) → c ≡ d → (if c then Some x.1 else at a n) ≡ (if d then Some y.1 else at b n) → at a n ≡ at b n
      by_test false f false g k = k
      by_test true f true g k = sym (ap (at a) (f refl)) ∙ not_later x a r ∙ sym (not_later y b q) ∙ ap (at b) (sym e ∙ f refl)
      by_test true f false g k = absurd (false≢true (sym g))
      by_test false f true g k = absurd (false≢true g)

  -- lists that rise by name and have the same at each name are the same
  pub rising_same : (a b : List (Name × X)) → rising (names_of a) ≡ true → rising (names_of b) ≡ true → ((n : Name) → at a n ≡ at b n) → a ≡ b
  rising_same [] [] r q f = refl
  rising_same [] (y ∷ b) r q f = absurd (false≢true (ap is_some (f y.0 ∙ first_entry y b)))
  rising_same (x ∷ a) [] r q f = absurd (false≢true (ap is_some (sym (f x.0) ∙ first_entry x a)))
  rising_same (x ∷ a) (y ∷ b) r q f =
      let e : x.0 ≡ y.0 = one_first x.0 y.0 (first_or_above x.0 y b q (ap is_some (sym (f x.0) ∙ first_entry x a))) (first_or_above y.0 x a r (ap is_some (f y.0 ∙ first_entry y b))) in
      let v : x.1 ≡ y.1 = same_Some x.1 y.1 (sym (first_entry x a) ∙ f x.0 ∙ ap (at (y ∷ b)) e ∙ first_entry y b) in
      ap (λ n. (n, x.1) ∷ a) e ∙ ap (λ k. (y.0, k) ∷ a) v ∙ ap (λ rows. y ∷ rows) (rising_same a b (tail_rises x.0 (names_of a) r) (tail_rises y.0 (names_of b) q) (λ n. rest_same x y a b e r q n (f n)))
