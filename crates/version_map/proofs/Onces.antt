-- Lists of entries in which each name is once: what is looked up tells their sums.
use Rattle.std.proofs.Common.{◌≡◌, ℕ, suc, ◌+◌, ◌≤◌, Bool, true, false, List, [], ◌∷◌, length, refl, ap, sym, ◌∙◌, arith}
use Rattle.std.specs.Prelude.{⊤, cond, not, sum_by, Option, Some, None, if◌then◌else◌}
use Rattle.std.proofs.lemmas.Bool.{false≢true}
use Rattle.std.proofs.lemmas.List.Sums.{sum_by-cons}
use Rattle.std.proofs.lemmas.Option.{none-some}
use Rattle.core_model.specs.Names.{Name, same_name, at, without, with_row}
use Rattle.core_model.proofs.Naming.{same_true, true_same}
use Rattle.core_model.proofs.Tables.{at_without, at_with_row}

module _ {X : Type 0} where
  -- no later entry has an entry's name
  abbrev pub IsOnce : List (Name × X) → Type 0
  IsOnce [] = ⊤
  IsOnce (row ∷ rows) = (at rows row.0 ≡ None) × IsOnce rows

  -- what an entry weighs, and nothing where there is none
  abbrev pub weight : (X → ℕ) → Option X → ℕ
  weight f None = 0
  weight f (Some x) = f x

  abbrev pub sum_of : (X → ℕ) → List (Name × X) → ℕ
  sum_of f rows = sum_by (λ row. f row.1) rows

  none_tail : (b : Bool) (x : X) (o : Option X) → (if b then Some x else o) ≡ None → (b ≡ false) × (o ≡ None)
  none_tail true x o h = absurd (none-some x (sym h))
  none_tail false x o h = (refl, h)

  kept_row : (b : Bool) (row : Name × X) (rest rows : List (Name × X)) → b ≡ false → rest ≡ rows → cond (not b) (row ∷ rest) rest ≡ row ∷ rows
  kept_row true row rest rows h e = absurd (false≢true (sym h))
  kept_row false row rest rows h e = ap (λ l. row ∷ l) e

  -- where the name has no entry, the entries of other names are all
  pub without_none : (n : Name) (rows : List (Name × X)) → at rows n ≡ None → without n rows ≡ rows
  without_none n [] h = refl
  without_none n (row ∷ rows) h =
      let t = none_tail (same_name row.0 n) row.1 (at rows n) h in
      kept_row (same_name row.0 n) row (without n rows) rows t.0 (without_none n rows t.1)

  none_either : (b : Bool) (o : Option X) → o ≡ None → (if b then None else o) ≡ None
  none_either true o h = refl
  none_either false o h = h

  once_row : (keep : Bool) (row : Name × X) (rest : List (Name × X)) → at rest row.0 ≡ None → IsOnce rest → IsOnce (cond keep (row ∷ rest) rest)
  once_row true row rest h o = (h, o)
  once_row false row rest h o = o

  pub once_without : (n : Name) (rows : List (Name × X)) → IsOnce rows → IsOnce (without n rows)
  once_without n [] o = o
  once_without n (row ∷ rows) o = once_row (not (same_name row.0 n)) row (without n rows) (at_without n rows row.0 ∙ none_either (same_name n row.0) (at rows row.0) o.0) (once_without n rows o.1)

  pub once_with : (n : Name) (x : X) (rows : List (Name × X)) → IsOnce rows → IsOnce (with_row n x rows)
  once_with n x rows o = (at_without n rows n ∙ ap (λ b. if b then None else at rows n) (true_same n n refl), once_without n rows o)

  sum_first : (f : X → ℕ) (row : Name × X) (rows : List (Name × X)) → sum_of f (row ∷ rows) ≡ f row.1 + sum_of f rows
  sum_first f row rows = sum_by-cons (λ (r : Name × X). f r.1) row rows

  sum_row : (f : X → ℕ) (n : Name) (row : Name × X) (rows : List (Name × X)) (b : Bool) → same_name row.0 n ≡ b → at rows row.0 ≡ None → sum_of f (without n rows) + weight f (at rows n) ≡ sum_of f rows
      → sum_of f (cond (not b) (row ∷ without n rows) (without n rows)) + weight f (if b then Some row.1 else at rows n) ≡ sum_of f (row ∷ rows)
  sum_row f n row rows true e o h =
      let all : sum_of f (without n rows) ≡ sum_of f rows = ap (sum_of f) (without_none n rows (ap (at rows) (sym (same_true row.0 n e)) ∙ o)) in
      more (sum_of f (without n rows)) (f row.1) (sum_of f rows) all ∙ sym (sum_first f row rows)
    where
      more : (a x b : ℕ) → a ≡ b → a + x ≡ x + b
      more a x b h = omega (arith, h)
  sum_row f n row rows false e o h = ap (λ a. a + weight f (at rows n)) (sum_first f row (without n rows)) ∙ more (f row.1) (sum_of f (without n rows)) (weight f (at rows n)) (sum_of f rows) h ∙ sym (sum_first f row rows)
    where
      more : (x a w b : ℕ) → a + w ≡ b → (x + a) + w ≡ x + b
      more x a w b h = omega (arith, h)

  -- a sum without a name's entry
  pub sum_without : (f : X → ℕ) (n : Name) (rows : List (Name × X)) → IsOnce rows → sum_of f (without n rows) + weight f (at rows n) ≡ sum_of f rows
  sum_without f n [] o = refl
  sum_without f n (row ∷ rows) o = sum_row f n row rows (same_name row.0 n) refl o.0 (sum_without f n rows o.1)

  no_rows : (rows : List (Name × X)) → ((n : Name) → at rows n ≡ None) → rows ≡ []
  no_rows [] h = refl
  no_rows (row ∷ rows) h = absurd (none-some row.1 (sym (h row.0) ∙ ap (λ b. if b then Some row.1 else at rows row.0) (true_same row.0 row.0 refl)))

  tail_at : (row : Name × X) (xs ys : List (Name × X)) (n : Name) (b : Bool) → same_name row.0 n ≡ b → at xs row.0 ≡ None → (if b then Some row.1 else at xs n) ≡ at ys n → at xs n ≡ (if b then None else at ys n)
  tail_at row xs ys n true e o h = ap (at xs) (sym (same_true row.0 n e)) ∙ o
  tail_at row xs ys n false e o h = h

  -- lists with the same entry at each name have the same sum
  pub same_sum : (f : X → ℕ) (xs ys : List (Name × X)) → IsOnce xs → IsOnce ys → ((n : Name) → at xs n ≡ at ys n) → sum_of f xs ≡ sum_of f ys
  same_sum f [] ys o p h = ap (sum_of f) (sym (no_rows ys (λ n. sym (h n))))
  same_sum f (row ∷ xs) ys o p h =
      let more : sum_of f xs ≡ sum_of f (without row.0 ys) = same_sum f xs (without row.0 ys) o.1 (once_without row.0 ys p) (λ n. tail_at row xs ys n (same_name row.0 n) refl o.0 (h n) ∙ sym (at_without row.0 ys n)) in
      let there : at ys row.0 ≡ Some row.1 = sym (h row.0) ∙ ap (λ b. if b then Some row.1 else at xs row.0) (true_same row.0 row.0 refl) in
      let one : weight f (at ys row.0) ≡ f row.1 = ap (weight f) there in
      sum_first f row xs ∙ joined (f row.1) (sum_of f xs) (sum_of f (without row.0 ys)) (weight f (at ys row.0)) (sum_of f ys) more one (sum_without f row.0 ys p)
    where
      joined : (x a b w c : ℕ) → a ≡ b → w ≡ x → b + w ≡ c → x + a ≡ c
      joined x a b w c e g h = omega (arith, e, g, h)

  -- the length is a sum too
  pub length_sum : (rows : List (Name × X)) → length rows ≡ sum_of (λ _. 1) rows
  length_sum [] = refl
  length_sum (row ∷ rows) = next (length rows) (sum_of (λ _. 1) rows) (length_sum rows) ∙ sym (sum_first (λ _. 1) row rows)
    where
      next : (a b : ℕ) → a ≡ b → suc a ≡ 1 + b
      next a b e = omega (arith, e)

  -- the entries with another one, or none, in place of a name's own
  abbrev pub with_option : Name → Option X → List (Name × X) → List (Name × X)
  with_option n None rows = without n rows
  with_option n (Some x) rows = with_row n x rows

  pub once_option : (n : Name) (o : Option X) (rows : List (Name × X)) → IsOnce rows → IsOnce (with_option n o rows)
  once_option n None rows h = once_without n rows h
  once_option n (Some x) rows h = once_with n x rows h

  pub at_option : (n : Name) (o : Option X) (rows : List (Name × X)) (m : Name) → at (with_option n o rows) m ≡ (if same_name n m then o else at rows m)
  at_option n None rows m = at_without n rows m
  at_option n (Some x) rows m = at_with_row n x rows m

  sum_option : (f : X → ℕ) (n : Name) (o : Option X) (rows : List (Name × X)) → IsOnce rows → sum_of f (with_option n o rows) + weight f (at rows n) ≡ sum_of f rows + weight f o
  sum_option f n None rows h = omega (arith, sum_without f n rows h)
  sum_option f n (Some x) rows h = ap (λ a. a + weight f (at rows n)) (sum_first f (n, x) (without n rows)) ∙ more (f x) (sum_of f (without n rows)) (weight f (at rows n)) (sum_of f rows) (sum_without f n rows h)
    where
      more : (x a w b : ℕ) → a + w ≡ b → (x + a) + w ≡ b + x
      more x a w b h = omega (arith, h)

  -- a sum after a change at one name
  pub sum_changed : (f : X → ℕ) (n : Name) (o : Option X) (old new : List (Name × X)) → IsOnce old → IsOnce new → ((m : Name) → at new m ≡ (if same_name n m then o else at old m)) → sum_of f new + weight f (at old n) ≡ sum_of f old + weight f o
  sum_changed f n o old new p q h =
      let same : sum_of f new ≡ sum_of f (with_option n o old) = same_sum f new (with_option n o old) q (once_option n o old p) (λ m. h m ∙ sym (at_option n o old m)) in
      omega (arith, same, sum_option f n o old p)

  -- one entry weighs at most what all do
  pub weight_within : (f : X → ℕ) (n : Name) (rows : List (Name × X)) → IsOnce rows → weight f (at rows n) ≤ sum_of f rows
  weight_within f n rows h = omega (arith, sum_without f n rows h)
