-- What a runtime shows of the modules of its page.
use Rattle.std.proofs.Common.{◌≡◌, ◌<◌, ◌≤◌, ◌+◌, ℕ, zero, suc, true, false, List, [], ◌∷◌, ◌++◌, length, take, refl, ap, sym, ◌∙◌, arith}
use Rattle.std.specs.Prelude.{flat_map, slice_get, Some, if◌then◌else◌}
use Rattle.std.proofs.lemmas.List.{append-nil, append_assoc, length-map, take_all}
use Rattle.std.specs.Ordering.{nat_cmp, is_lt}
use Rattle.std.specs.Cmp.Lexicographic.{slice_cmp}
use Rattle.core_model.specs.Names.{Name, at, has, names_of, put_name, rising, same_name, sorted}
use Rattle.core_model.specs.View.{View, imports_of}
use Rattle.core_model.proofs.Naming.{both_true, head_has, tail_has, true_same}
use Rattle.core_model.proofs.Rising.{tail_rises}
use Rattle.client_model.specs.Runtime.{Runtime}
use Rattle.client_model.specs.Stale.{stale_from, stale_of}
use Rattle.page_showing.specs.Showing.{stale_among}
use Rattle.page_plan.proofs.Making.{behind, below_apart}
use Rattle.runtime_showing.specs.Showing.{stale_row}

-- names that rise are in order
put_first : (n : Name) (names : List Name) → rising (n ∷ names) ≡ true → put_name n names ≡ n ∷ names
put_first n [] r = refl
put_first n (m ∷ names) r =
    let low : is_lt (slice_cmp nat_cmp n m) ≡ true = (both_true (is_lt (slice_cmp nat_cmp n m)) _ r).0 in
    ap (λ b. if b then m ∷ names else (if is_lt (slice_cmp nat_cmp n m) then n ∷ (m ∷ names) else m ∷ put_name n names)) (below_apart n m low)
    ∙ ap (λ b. if b then n ∷ (m ∷ names) else m ∷ put_name n names) low

sorted_is : (names : List Name) → rising names ≡ true → sorted names ≡ names
sorted_is [] r = refl
sorted_is (n ∷ names) r = ap (put_name n) (sorted_is names (tail_rises n names r)) ∙ put_first n names r

-- the stale edges of these modules, where each has what the page has of it
abbrev rows_shown : Runtime → View → List (Name × Name)
rows_shown r rows = flat_map (λ row. stale_row r (Some row)) rows

each_shown : (r : Runtime) (rows : View) → rising (names_of rows) ≡ true → ((n : Name) → has (names_of rows) n ≡ true → at r.page.view n ≡ at rows n) → rows_shown r rows ≡ flat_map (stale_from r) (names_of rows)
each_shown r [] rises same = refl
each_shown r (row ∷ rows) rises same =
    ap (λ es. es ++ rows_shown r rows) (ap (λ o. stale_among r row.0 (sorted (imports_of o))) (sym (same row.0 (head_has row.0 (names_of rows)) ∙ first)))
    ∙ ap (λ es. stale_from r row.0 ++ es) (each_shown r rows (tail_rises row.0 (names_of rows) rises) later)
  where
    itself : same_name row.0 row.0 ≡ true
    itself = true_same row.0 row.0 refl

    first : at (row ∷ rows) row.0 ≡ Some row.1
    first = ap (λ b. if b then Some row.1 else at rows row.0) itself

    later : (n : Name) → has (names_of rows) n ≡ true → at r.page.view n ≡ at rows n
    later n h =
        let other : same_name row.0 n ≡ false = below_apart row.0 n (behind row.0 (names_of rows) rises n h) in
        same n (tail_has row.0 (names_of rows) n h) ∙ ap (λ b. if b then Some row.1 else at rows n) other

-- all stale edges, module for module
pub stale_is : (r : Runtime) → rising (names_of r.page.view) ≡ true → rows_shown r r.page.view ≡ stale_of r
stale_is r rises = each_shown r r.page.view rises (λ n h. refl) ∙ ap (flat_map (stale_from r)) (sym (sorted_is (names_of r.page.view) rises))

-- one row more
row_more : (r : Runtime) (rows : View) (place : ℕ) → place < length rows → rows_shown r (take (suc place) rows) ≡ rows_shown r (take place rows) ++ stale_row r (slice_get rows place)
row_more r [] place within = absurd (omega (arith, within))
row_more r (row ∷ rows) zero within = append-nil (stale_row r (Some row))
row_more r (row ∷ rows) (suc place) within =
    let below : place < length rows = omega (arith, within) in
    ap (λ es. stale_row r (Some row) ++ es) (row_more r rows place below) ∙ sym (append_assoc (stale_row r (Some row)) (rows_shown r (take place rows)) (stale_row r (slice_get rows place)))

pub edges_more : (r : Runtime) (rows : View) (place : ℕ) (before after : List (Name × Name)) → place < length rows → before ≡ rows_shown r (take place rows) → after ≡ before ++ stale_row r (slice_get rows place) → after ≡ rows_shown r (take (place + 1) rows)
edges_more r rows place before after within so_far last =
    let next : suc place ≡ place + 1 = omega arith in
    last ∙ ap (λ es. es ++ stale_row r (slice_get rows place)) so_far ∙ sym (row_more r rows place within) ∙ ap (λ k. rows_shown r (take k rows)) next

-- no row more
pub edges_all : (r : Runtime) (rows : View) (place : ℕ) (edges : List (Name × Name)) → r.page.view ≡ rows → rising (names_of r.page.view) ≡ true → length rows ≤ place → edges ≡ rows_shown r (take place rows) → edges ≡ stale_of r
edges_all r rows place edges is rises past all = all ∙ ap (rows_shown r) (take_all place rows past ∙ sym is) ∙ stale_is r rises

-- as many names as modules
pub named_count : (rows : View) (names : List Name) → names ≡ names_of rows → length names ≡ length rows
named_count rows names e = ap length e ∙ length-map rows (λ row. row.0)
