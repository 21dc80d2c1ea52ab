-- The modules of a page, one by one, as rows of a table.
use Rattle.std.proofs.Common.{◌≡◌, ℕ, ◌+◌, suc, zero, add-one, [], ◌∷◌, ◌++◌, take, refl, ap, sym, ◌∙◌}
use Rattle.std.specs.Prelude.{slice_get}
use Rattle.core_model.specs.View.{View, table_of}
use Rattle.page_marks.specs.Listed.{listed}

taken_suc : (view : View) (i : ℕ) → table_of (take i view) ++ table_of (listed (slice_get view i)) ≡ table_of (take (suc i) view)
taken_suc [] zero = refl
taken_suc [] (suc i) = refl
taken_suc (row ∷ rows) zero = refl
taken_suc (row ∷ rows) (suc i) = ap (λ l. (row.0, row.1.version) ∷ l) (taken_suc rows i)

-- the rows so far and the next one
pub taken_more : (view : View) (i : ℕ) → table_of (take i view) ++ table_of (listed (slice_get view i)) ≡ table_of (take (i + 1) view)
taken_more view i = taken_suc view i ∙ ap (λ j. table_of (take j view)) (sym (add-one i))
