-- Where an entry stands among entries that rise by name, and what stays in order.
use Rattle.std.proofs.Common.{◌≡◌, ℕ, ◌<◌, ◌+◌, Bool, true, false, List, [], ◌∷◌, ◌++◌, length, take, drop, get_or, refl, ap, sym, ◌∙◌}
use Rattle.std.specs.Prelude.{slice_set, filter, not, cond, if◌then◌else◌}
use Rattle.std.specs.Cmp.Lexicographic.{slice_cmp}
use Rattle.std.specs.Ordering.{nat_cmp, is_lt}
use Rattle.std.proofs.Math.Path.{subst}
use Rattle.std.proofs.lemmas.List.{drop_more}
use Rattle.std.proofs.lemmas.List.Kept.{IsStrictlySortedBy-filter}
use Rattle.std.proofs.lemmas.Map.Keys.{sorted_tail}
use Rattle.core_model.specs.Names.{Name, same_name, names_of, put_name, without}
use Rattle.core_model.proofs.Naming.{same_true}
use Rattle.module_graph.proofs.Rows.{set_parts}
use Rattle.module_graph.proofs.Sorting.{IsRising, put_rising}
use Rattle.client_queue.specs.Queue.{put_row}

abbrev Rows : Type 0 → Type 0
Rows X = List (Name × X)

module _ {X : Type 0} where
  -- an entry put where its name stands
  pub row_there : (n : Name) (x : X) (rows : Rows X) (i : ℕ) (d : Name × X) → i < length rows → put_row n x rows ≡ take i rows ++ put_row n x (drop i rows) → same_name n (get_or rows i d).0 ≡ true → put_row n x rows ≡ slice_set rows i (n, x)
  row_there n x rows i d h so_far s = so_far
      ∙ ap (λ r. take i rows ++ put_row n x r) (drop_more rows i d h)
      ∙ ap (λ b. take i rows ++ (if b then (n, x) ∷ drop (i + 1) rows else (if is_lt (slice_cmp nat_cmp n (get_or rows i d).0) then (n, x) ∷ (get_or rows i d ∷ drop (i + 1) rows) else get_or rows i d ∷ put_row n x (drop (i + 1) rows)))) s
      ∙ sym (set_parts rows i (n, x) h)

  names_step : (n : Name) (x : X) (row : Name × X) (rows : Rows X) (same low : Bool) → (same ≡ true → n ≡ row.0) → names_of (put_row n x rows) ≡ put_name n (names_of rows)
      → names_of (if same then (n, x) ∷ rows else (if low then (n, x) ∷ (row ∷ rows) else row ∷ put_row n x rows)) ≡ (if same then row.0 ∷ names_of rows else (if low then n ∷ (row.0 ∷ names_of rows) else row.0 ∷ put_name n (names_of rows)))
  names_step n x row rows true low f e = ap (λ k. k ∷ names_of rows) (f refl)
  names_step n x row rows false true f e = refl
  names_step n x row rows false false f e = ap (λ l. row.0 ∷ l) e

  -- the names of the entries are those that were, and this one
  pub names_put : (n : Name) (x : X) (rows : Rows X) → names_of (put_row n x rows) ≡ put_name n (names_of rows)
  names_put n x [] = refl
  names_put n x (row ∷ rows) = names_step n x row rows (same_name n row.0) (is_lt (slice_cmp nat_cmp n row.0)) (same_true n row.0) (names_put n x rows)

  pub row_rises : (n : Name) (x : X) (rows new : Rows X) → new ≡ put_row n x rows → IsRising (names_of rows) → IsRising (names_of new)
  row_rises n x rows new e s = subst IsRising (sym (ap names_of e ∙ names_put n x rows)) (put_rising n (names_of rows) s)

  kept_step : (n : Name) (row : Name × X) (rows : Rows X) (b : Bool) → names_of (without n rows) ≡ filter (λ m. not (same_name m n)) (names_of rows)
      → names_of (cond b (row ∷ without n rows) (without n rows)) ≡ cond b (row.0 ∷ filter (λ m. not (same_name m n)) (names_of rows)) (filter (λ m. not (same_name m n)) (names_of rows))
  kept_step n row rows true e = ap (λ l. row.0 ∷ l) e
  kept_step n row rows false e = e

  names_kept : (n : Name) (rows : Rows X) → names_of (without n rows) ≡ filter (λ m. not (same_name m n)) (names_of rows)
  names_kept n [] = refl
  names_kept n (row ∷ rows) = kept_step n row rows (not (same_name row.0 n)) (names_kept n rows)

  pub kept_rises : (n : Name) (rows new : Rows X) → new ≡ without n rows → IsRising (names_of rows) → IsRising (names_of new)
  kept_rises n rows new e s = subst IsRising (sym (ap names_of e ∙ names_kept n rows)) (IsStrictlySortedBy-filter (slice_cmp nat_cmp) (λ m. not (same_name m n)) (names_of rows) s)

  pub left_rises : (rows new : Rows X) → new ≡ drop 1 rows → IsRising (names_of rows) → IsRising (names_of new)
  left_rises [] new e s = subst (λ r. IsRising (names_of r)) (sym e) s
  left_rises (row ∷ rows) new e s = subst (λ r. IsRising (names_of r)) (sym e) (sorted_tail (slice_cmp nat_cmp) row.0 (names_of rows) s)
