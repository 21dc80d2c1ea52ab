-- A row at its place among others.
use Rattle.std.proofs.Common.{◌≡◌, ℕ, ◌+◌, ◌<◌, ◌≤◌, ◌==◌, true, false, List, [], ◌∷◌, ◌++◌, drop, take, length, get_or, append_assoc, ap, sym, ◌∙◌, arith}
use Rattle.std.specs.Prelude.{nat_lt, slice_set, if◌then◌else◌}
use Rattle.std.specs.List.{All, insert}
use Rattle.std.proofs.Math.Seq.{get_or-append_seam}
use Rattle.std.proofs.lemmas.List.{drop-set-lt, drop_all, drop_more, get_or_append_left, length-append, take-append-drop, take_more, take_more_set}
use Rattle.hot_events.specs.Calls.{Event, first_of}
use Rattle.hot_events.specs.Rows.{Row, first_in, taken_from, with_row}

set_parts : {X : Type 0} (xs : List X) (i : ℕ) (y : X) → i < length xs → slice_set xs i y ≡ take i xs ++ y ∷ drop (i + 1) xs
set_parts xs i y h = sym (take-append-drop (i + 1) (slice_set xs i y)) ∙ ap (λ l. l ++ drop (i + 1) (slice_set xs i y)) (take_more_set xs i y h)
    ∙ append_assoc (take i xs) (y ∷ []) (drop (i + 1) (slice_set xs i y)) ∙ ap (λ l. take i xs ++ y ∷ l) (drop-set-lt (i + 1) xs i y (omega arith))

-- the client's row stands here
pub taken_there : (i : ℕ) (rows : List Row) (p : ℕ) (d : Row) → p < length rows → taken_from i rows ≡ take p rows ++ taken_from i (drop p rows)
    → ((get_or rows p d).0 == i) ≡ true → taken_from i rows ≡ slice_set rows p ((get_or rows p d).0, drop 1 (get_or rows p d).1)
taken_there i rows p d h so_far s =
    let row = get_or rows p d in
    let rest = drop (p + 1) rows in
    so_far
    ∙ ap (λ l. take p rows ++ taken_from i l) (drop_more rows p d h)
    ∙ ap (λ b. take p rows ++ (if b then (row.0, drop 1 row.1) ∷ rest else row ∷ taken_from i rest)) s
    ∙ sym (set_parts rows p (row.0, drop 1 row.1) h)

pub first_there : (i : ℕ) (rows : List Row) (p : ℕ) (d : Row) → p < length rows → first_in i rows ≡ first_in i (drop p rows)
    → ((get_or rows p d).0 == i) ≡ true → first_in i rows ≡ first_of (get_or rows p d).1
first_there i rows p d h so_far s =
    let row = get_or rows p d in
    so_far
    ∙ ap (first_in i) (drop_more rows p d h)
    ∙ ap (λ b. if b then first_of row.1 else first_in i (drop (p + 1) rows)) s

-- a row belongs here
pub belongs : (row : Row) (rows : List Row) (p : ℕ) (d : Row) → p < length rows → with_row row rows ≡ take p rows ++ with_row row (drop p rows)
    → nat_lt (get_or rows p d).0 row.0 ≡ false → insert rows p row ≡ with_row row rows
belongs row rows p d h so_far s =
    let r = get_or rows p d in
    let rest = drop (p + 1) rows in
    ap (λ l. take p rows ++ row ∷ l) (drop_more rows p d h)
    ∙ sym (so_far
    ∙ ap (λ l. take p rows ++ with_row row l) (drop_more rows p d h)
    ∙ ap (λ b. take p rows ++ (if b then r ∷ with_row row rest else row ∷ r ∷ rest)) s)

-- or behind it
pub belongs_later : (row : Row) (rows : List Row) (p : ℕ) (d : Row) → p < length rows → with_row row rows ≡ take p rows ++ with_row row (drop p rows)
    → nat_lt (get_or rows p d).0 row.0 ≡ true → with_row row rows ≡ take (p + 1) rows ++ with_row row (drop (p + 1) rows)
belongs_later row rows p d h so_far s =
    let r = get_or rows p d in
    let rest = drop (p + 1) rows in
    so_far
    ∙ ap (λ l. take p rows ++ with_row row l) (drop_more rows p d h)
    ∙ ap (λ b. take p rows ++ (if b then r ∷ with_row row rest else row ∷ r ∷ rest)) s
    ∙ sym (append_assoc (take p rows) (r ∷ []) (with_row row rest))
    ∙ ap (λ l. l ++ with_row row rest) (sym (take_more rows p d h))

-- or at the end
pub belongs_last : (row : Row) (rows : List Row) (p : ℕ) → length rows ≤ p → with_row row rows ≡ take p rows ++ with_row row (drop p rows) → insert rows p row ≡ with_row row rows
belongs_last row rows p h so_far =
    let none = drop_all p rows h in
    ap (λ l. take p rows ++ row ∷ l) none ∙ sym (so_far ∙ ap (λ l. take p rows ++ with_row row l) none)

-- the last of events that are all alike, and those before it
pub all_alike : (e x : Event) (before all : List Event) → all ≡ before ++ x ∷ [] → All (λ y. y ≡ e) all → All (λ y. y ≡ e) before × (x ≡ e)
all_alike e x before all parts alike =
    let longer : length all ≡ length before + 1 = ap length parts ∙ length-append before (x ∷ []) in (
      λ k d h. sym (get_or_append_left before (x ∷ []) d k h) ∙ ap (λ l. get_or l k d) (sym parts) ∙ alike k d (omega (arith, h, longer)),
      sym (get_or-append_seam before x [] x) ∙ ap (λ l. get_or l (length before) x) (sym parts) ∙ alike (length before) x (omega (arith, longer)),
    )
