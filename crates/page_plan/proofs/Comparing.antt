-- A told table against a view, and the row that an Applied meets.
use Rattle.std.proofs.Common.{◌≡◌, ℕ, zero, suc, ◌<◌, arith, length, drop, length-append, append_assoc, append-nil, Bool, true, false, List, [], ◌∷◌, ◌++◌, refl, ap, sym, ◌∙◌}
use Rattle.std.specs.Prelude.{◌&&◌, ◌==◌, filter, not, slice_get, Option, Some, None, is_some, option_map, if◌then◌else◌}
use Rattle.std.proofs.lemmas.Bool.{false≢true}
use Rattle.std.proofs.lemmas.Option.{same_Some}
use Rattle.core_model.specs.Names.{Name, same_name, has, at, names_of, sorted, first_of}
use Rattle.core_model.specs.View.{View, Entry, table_of}
use Rattle.core_model.specs.Asking.{number_or_zero}
use Rattle.core_model.specs.Page.{Plan, entry_at, met_of, unfetched_of, new_view}
use Rattle.core_model.specs.Requests.{AppliedRow, unfetched, mismatch, done, version_at, differing, row_differing, row_unfetched, applied_row}
use Rattle.core_model.proofs.Naming.{sorted_has, filtered_has}
use Rattle.std.proofs.Math.Path.{subst}
use Rattle.std.proofs.lemmas.List.Kept.{IsStrictlySortedBy-filter}
use Rattle.std.proofs.lemmas.List.Elements.{filter_agree}
use Rattle.std.specs.List.Sorted.{IsStrictlySortedBy}
use Rattle.std.specs.Ordering.{nat_cmp}
use Rattle.std.specs.Cmp.Lexicographic.{slice_cmp}
use Rattle.page_plan.specs.Applied.{IsApplied, IsCompared}
use Rattle.page_plan.specs.declared.apply.Applied.{Applied}
use Rattle.page_plan.specs.declared.apply.Applied.TheVariants as is
use Rattle.module_graph.proofs.Sorting.{sorted_rising, rising_is_sorted}

-- the versions of a view

table_step : (b : Bool) (e : Entry) (o : Option Entry) (v : Option ℕ) → v ≡ option_map (λ e. e.version) o → (if b then Some e.version else v) ≡ option_map (λ e. e.version) (if b then Some e else o)
table_step true e o v h = refl
table_step false e o v h = h

pub at_table : (view : View) (n : Name) → at (table_of view) n ≡ option_map (λ e. e.version) (at view n)
at_table [] n = refl
at_table (row ∷ rows) n = table_step (same_name row.0 n) row.1 (at rows n) (at (table_of rows) n) (at_table rows n)

pub kept_some : (view : View) (n : Name) (e : Entry) → Some e ≡ at view n → e.version ≡ version_at (table_of view) n
kept_some view n e h = sym (ap number_or_zero (at_table view n ∙ ap (option_map (λ (e : Entry). e.version)) (sym h)))

pub kept_none : (view : View) (n : Name) → None ≡ at view n → 0 ≡ version_at (table_of view) n
kept_none view n h = sym (ap number_or_zero (at_table view n ∙ ap (option_map (λ (e : Entry). e.version)) (sym h)))

pub table_names : (view : View) → names_of (table_of view) ≡ names_of view
table_names [] = refl
table_names (row ∷ rows) = ap (λ l. row.0 ∷ l) (table_names rows)

-- the first difference, and the row

pub no_difference : (told kept : List (Name × ℕ)) → first_of (differing told kept) ≡ None → row_differing (differing told kept) told kept ≡ done
no_difference told kept h = by (differing told kept) h
  where
    by : (ns : List Name) → first_of ns ≡ None → row_differing ns told kept ≡ done
    by [] h = refl
    by (n ∷ ns) h = absurd (false≢true (sym (ap is_some h)))

pub a_difference : (told kept : List (Name × ℕ)) (n : Name) → first_of (differing told kept) ≡ Some n → row_differing (differing told kept) told kept ≡ mismatch n (version_at told n) (version_at kept n)
a_difference told kept n h = by (differing told kept) h
  where
    by : (ns : List Name) → first_of ns ≡ Some n → row_differing ns told kept ≡ mismatch n (version_at told n) (version_at kept n)
    by [] h = absurd (false≢true (ap is_some h))
    by (m ∷ ns) h = ap (λ k. mismatch k (version_at told k) (version_at kept k)) (same_Some m n h)

-- what is told may be looked up in another list that has the same version at each name
differing_found : (told map kept : List (Name × ℕ)) (names : List Name) → ((n : Name) → at map n ≡ at told n)
    → names ≡ sorted (names_of told ++ names_of kept)
    → filter (λ n. not (version_at map n == version_at kept n)) names ≡ differing told kept
differing_found told map kept names same e =
    filter_agree (λ n. not (version_at map n == version_at kept n)) (λ n. not (version_at told n == version_at kept n))
    (λ n. ap (λ o. not (number_or_zero o == version_at kept n)) (same n)) names
    ∙ ap (filter (λ n. not (version_at told n == version_at kept n))) e

pub none_found : (told map kept : List (Name × ℕ)) (names : List Name) → ((n : Name) → at map n ≡ at told n)
    → names ≡ sorted (names_of told ++ names_of kept)
    → None ≡ first_of (filter (λ n. not (version_at map n == version_at kept n)) names)
    → row_differing (differing told kept) told kept ≡ done
none_found told map kept names same e h =
    no_difference told kept (sym (ap first_of (differing_found told map kept names same e)) ∙ sym h)

pub one_found : (told map kept : List (Name × ℕ)) (names : List Name) (n m : Name) (v k : ℕ)
    → ((n : Name) → at map n ≡ at told n) → names ≡ sorted (names_of told ++ names_of kept)
    → Some n ≡ first_of (filter (λ n. not (version_at map n == version_at kept n)) names)
    → m ≡ n → v ≡ version_at map n → k ≡ version_at kept n
    → row_differing (differing told kept) told kept ≡ mismatch m v k
one_found told map kept names n m v k same e h m_is v_is k_is =
    a_difference told kept n (sym (ap first_of (differing_found told map kept names same e)) ∙ sym h)
    ∙ ap (λ j. mismatch n j (version_at kept n)) (sym (v_is ∙ ap number_or_zero (same n)))
    ∙ ap (λ j. mismatch n v j) (sym k_is) ∙ ap (λ j. mismatch j v k) (sym m_is)

-- what isn't fetched

abbrev pub lacks : Plan → View → Name → Bool
lacks p view n = not (is_some (entry_at p view n))

pub unfetched_is : (roots : List Name) (p : Plan) (view : View) (names : List Name) → names ≡ sorted (met_of roots p view) → filter (lacks p view) names ≡ unfetched_of roots p view
unfetched_is roots p view names e =
    rising_is_sorted (filter (lacks p view) names) (filter (lacks p view) (met_of roots p view))
    (IsStrictlySortedBy-filter (slice_cmp nat_cmp) (lacks p view) names (subst (IsStrictlySortedBy (slice_cmp nat_cmp)) (sym e) (sorted_rising (met_of roots p view))))
    (λ n. filtered_has (lacks p view) names n ∙ ap (λ b. lacks p view n && b) (ap (λ l. has l n) e ∙ sorted_has (met_of roots p view) n) ∙ sym (filtered_has (lacks p view) (met_of roots p view) n))

pub lacking : (roots : List Name) (p : Plan) (view : View) (names : List Name) (n : Name) (told : List (Name × ℕ)) → names ≡ sorted (met_of roots p view) → Some n ≡ first_of (filter (lacks p view) names) → applied_row roots p view told ≡ unfetched n
lacking roots p view names n told e h = by (unfetched_of roots p view) (h ∙ ap first_of (unfetched_is roots p view names e))
  where
    by : (ns : List Name) → Some n ≡ first_of ns → row_unfetched ns (row_differing (differing told (table_of (new_view roots p view))) told (table_of (new_view roots p view))) ≡ unfetched n
    by [] h = absurd (false≢true (sym (ap is_some h)))
    by (m ∷ ns) h = ap unfetched (sym (same_Some n m h))

pub row_is : (roots : List Name) (p : Plan) (view made : View) (names : List Name) (told : List (Name × ℕ)) (row : AppliedRow) → names ≡ sorted (met_of roots p view) → None ≡ first_of (filter (lacks p view) names) → made ≡ new_view roots p view → row_differing (differing told (table_of made)) told (table_of made) ≡ row → applied_row roots p view told ≡ row
row_is roots p view made names told row e h is r = by (unfetched_of roots p view) (h ∙ ap first_of (unfetched_is roots p view names e)) ∙ ap (λ (v : View). row_differing (differing told (table_of v)) told (table_of v)) (sym is) ∙ r
  where
    by : (ns : List Name) → None ≡ first_of ns → row_unfetched ns (row_differing (differing told (table_of (new_view roots p view))) told (table_of (new_view roots p view))) ≡ row_differing (differing told (table_of (new_view roots p view))) told (table_of (new_view roots p view))
    by [] h = refl
    by (m ∷ ns) h = absurd (false≢true (ap is_some h))

-- the answer that compares with the plan's view is the answer to the Applied
pub compared_applied : (roots : List Name) (p : Plan) (view made : View) (names : List Name) (told : List (Name × ℕ)) (answer : Applied) → names ≡ sorted (met_of roots p view) → None ≡ first_of (filter (lacks p view) names) → made ≡ new_view roots p view → IsCompared told made answer → IsApplied roots p view told answer
compared_applied roots p view made names told (is.Unfetched n) e h m c = absurd c
compared_applied roots p view made names told (is.Mismatch n v k) e h m c = row_is roots p view made names told (mismatch n v k) e h m c
compared_applied roots p view made names told (is.Done whole) e h m c = record { row = row_is roots p view made names told done e h m c.0; whole = c.1 ∙ m }

-- the rows of a table, one after another

pub drop_found : (view : View) (k : ℕ) (row : Name × Entry) → Some row ≡ slice_get view k → drop k view ≡ row ∷ drop (suc k) view
drop_found [] zero row e = absurd (false≢true (sym (ap is_some e)))
drop_found [] (suc k) row e = absurd (false≢true (sym (ap is_some e)))
drop_found (x ∷ xs) zero row e = ap (λ y. y ∷ xs) (sym (same_Some row x e))
drop_found (x ∷ xs) (suc k) row e = drop_found xs k row e

pub drop_none : (view : View) (k : ℕ) → None ≡ slice_get view k → drop k view ≡ []
drop_none [] zero e = refl
drop_none [] (suc k) e = refl
drop_none (x ∷ xs) zero e = absurd (false≢true (ap is_some e))
drop_none (x ∷ xs) (suc k) e = drop_none xs k e

-- one row more
pub rows_more : (view : View) (rows more : List (Name × ℕ)) (n : Name) (e : Entry) → rows ++ table_of (drop (length rows) view) ≡ table_of view → Some (n, e) ≡ slice_get view (length rows) → more ≡ rows ++ (n, e.version) ∷ [] → more ++ table_of (drop (length more) view) ≡ table_of view
rows_more view rows more n e before found after =
    let longer : length more ≡ suc (length rows) = omega (arith, ap length after, length-append rows ((n, e.version) ∷ [])) in
    ap (λ k. more ++ table_of (drop k view)) longer
    ∙ ap (λ l. l ++ table_of (drop (suc (length rows)) view)) after
    ∙ append_assoc rows ((n, e.version) ∷ []) (table_of (drop (suc (length rows)) view))
    ∙ ap (λ (v : View). rows ++ table_of v) (sym (drop_found view (length rows) (n, e) found)) ∙ before

-- no row more
pub rows_all : (view : View) (rows : List (Name × ℕ)) → rows ++ table_of (drop (length rows) view) ≡ table_of view → None ≡ slice_get view (length rows) → rows ≡ table_of view
rows_all view rows before none = sym (append-nil rows) ∙ ap (λ (v : View). rows ++ table_of v) (sym (drop_none view (length rows) none)) ∙ before

pub within : (view : View) (k : ℕ) (row : Name × Entry) → Some row ≡ slice_get view k → k < length view
within [] zero row e = absurd (false≢true (sym (ap is_some e)))
within [] (suc k) row e = absurd (false≢true (sym (ap is_some e)))
within (x ∷ xs) zero row e = omega arith
within (x ∷ xs) (suc k) row e = omega (arith, within xs k row e)
