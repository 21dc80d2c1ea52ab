-- An entry in place of the one of its name, where it lists what that does.
use Rattle.std.proofs.Common.{◌≡◌, Bool, true, false, List, [], ◌∷◌, refl, ap, sym, ◌∙◌}
use Rattle.std.specs.Prelude.{◌&&◌, ◌||◌, cond, not, Option, Some, None, is_some, if◌then◌else◌}
use Rattle.std.specs.Cmp.Lexicographic.{pointwise}
use Rattle.std.specs.List.{IsDistinct}
use Rattle.std.specs.Map.{keys_of, lookup, set_value}
use Rattle.std.proofs.lemmas.Bool.{false≢true}
use Rattle.std.proofs.lemmas.Cmp.{nat_list_eq_equiv}
use Rattle.std.proofs.lemmas.Map.{NonePasses, none_passes_from_lookup}
use Rattle.std.proofs.lemmas.Map.Entries.{none_past_head}
use Rattle.std.proofs.lemmas.Map.Keys.{IsDistinct-tail}
use Rattle.std.proofs.lemmas.Option.{same_Some}
use Rattle.hmr_types.specs.declared.analysis.Analysis.{Analysis}
use Rattle.core_model.specs.Names.{Name, same_name, has, at, names_of}
use Rattle.core_model.specs.Roots.{are_distinct}
use Rattle.core_model.specs.View.{View, Entry, accepted_of, imports_of}
use Rattle.core_model.proofs.Naming.{same_true, both_true, neither, not_true}
use Rattle.core_model.proofs.Tables.{named}
use Rattle.module_graph.specs.declared.view_rows.Row.{Row}
use Rattle.module_graph.specs.Entries.{lists_alike, put_entry}
use Rattle.module_graph.specs.ReverseIndex.{Sets, IsTurned}
use Rattle.module_graph.specs.Rows.{Rows, view_of, are_staying, renew, renew_name, AreIndexed}
use Rattle.module_graph.proofs.Marking.{put_at}

-- Lists that the test takes for the same.

pub same_lists : (xs ys : List Name) → pointwise same_name xs ys ≡ true → xs ≡ ys
same_lists [] [] h = refl
same_lists [] (y ∷ ys) h = absurd (false≢true h)
same_lists (x ∷ xs) [] h = absurd (false≢true h)
same_lists (x ∷ xs) (y ∷ ys) h =
    let p = both_true (same_name x y) (pointwise same_name xs ys) h in
    ap (λ k. k ∷ xs) (same_true x y p.0) ∙ ap (λ l. y ∷ l) (same_lists xs ys p.1)

-- an entry that lists what an analysis says
pub record IsAlike (o : Option Entry) (a : Analysis) : Type 0 where
  pub there : is_some o ≡ true
  pub imports : imports_of o ≡ a.imports
  pub accepted : accepted_of o ≡ a.accepted

pub alike : (o : Option Entry) (a : Analysis) → lists_alike o a ≡ true → IsAlike o a
alike None a h = absurd (false≢true h)
alike (Some e) a h =
    let p = both_true (pointwise same_name e.analysis.imports a.imports) (pointwise same_name e.analysis.accepted a.accepted) h in
    record { there = refl; imports = same_lists e.analysis.imports a.imports p.0; accepted = same_lists e.analysis.accepted a.accepted p.1 }

-- The row of a name.

renew_none : (n : Name) (e : Entry) (rows : Rows) → NonePasses (same_name n) rows → renew_name n e rows ≡ rows
renew_none n e [] h = refl
renew_none n e (row ∷ rows) h = ap (λ b. (row.0, renew b e row.1) ∷ renew_name n e rows) h.0 ∙ ap (λ l. row ∷ l) (renew_none n e rows h.1)

-- a name that isn't found
pub renew_absent : (n : Name) (e : Entry) (rows : Rows) → None ≡ lookup (same_name n) rows → renew_name n e rows ≡ rows
renew_absent n e rows h = renew_none n e rows (none_passes_from_lookup (same_name n) rows (sym h))

renew_step : (n : Name) (e : Entry) (row : Name × Row) (rows : Rows) (r : Row) (b : Bool) → Some r ≡ cond b (Some row.1) (lookup (same_name n) rows) → (b ≡ true → NonePasses (same_name n) rows)
    → (Some r ≡ lookup (same_name n) rows → set_value (same_name n) rows (renew true e r) ≡ renew_name n e rows)
    → cond b ((row.0, renew true e r) ∷ rows) (row ∷ set_value (same_name n) rows (renew true e r)) ≡ (row.0, renew b e row.1) ∷ renew_name n e rows
renew_step n e row rows r true s f h = ap (λ x. (row.0, renew true e x) ∷ rows) (same_Some r row.1 s) ∙ ap (λ l. (row.0, renew true e row.1) ∷ l) (sym (renew_none n e rows (f refl)))
renew_step n e row rows r false s f h = ap (λ l. row ∷ l) (h s)

-- the row that is found, with another entry
pub renew_found : (n : Name) (e : Entry) (rows : Rows) (r : Row) → IsDistinct same_name (keys_of rows) → Some r ≡ lookup (same_name n) rows → set_value (same_name n) rows (renew true e r) ≡ renew_name n e rows
renew_found n e [] r d s = refl
renew_found n e (row ∷ rows) r d s = renew_step n e row rows r (same_name n row.0) s
    (λ t. none_past_head nat_list_eq_equiv n row rows d t)
    (renew_found n e rows r (IsDistinct-tail same_name row.0 (keys_of rows) d))

-- The view of the rows.

pub renewed_names : (n : Name) (e : Entry) (rows : Rows) → names_of (view_of (renew_name n e rows)) ≡ names_of (view_of rows)
renewed_names n e [] = refl
renewed_names n e (row ∷ rows) = ap (λ l. row.0 ∷ l) (renewed_names n e rows)

renewed_staying : (n : Name) (e : Entry) (rows : Rows) → are_staying (renew_name n e rows) ≡ are_staying rows
renewed_staying n e [] = refl
renewed_staying n e (row ∷ rows) = ap (λ b. not row.1.leaving && b) (renewed_staying n e rows)

missed_step : (n : Name) (e : Entry) (row : Name × Row) (rest view : View) (b : Bool) → b ≡ false → rest ≡ view → (row.0, (renew b e row.1).entry) ∷ rest ≡ (row.0, row.1.entry) ∷ view
missed_step n e row rest view true s h = absurd (false≢true (sym s))
missed_step n e row rest view false s h = ap (λ (l : View). (row.0, row.1.entry) ∷ l) h

-- a name that isn't there
missed : (n : Name) (e : Entry) (rows : Rows) → has (names_of (view_of rows)) n ≡ false → view_of (renew_name n e rows) ≡ view_of rows
missed n e [] h = refl
missed n e (row ∷ rows) h =
    let p = neither (same_name row.0 n) (has (names_of (view_of rows)) n) h in
    missed_step n e row (view_of (renew_name n e rows)) (view_of rows) (same_name n row.0) (nat_list_eq_equiv.symm n row.0 ∙ p.0) (missed n e rows p.1)

there_step : (n : Name) (e : Entry) (row : Name × Row) (rows : Rows) (b : Bool) → same_name row.0 n ≡ b → are_distinct (names_of (view_of (row ∷ rows))) ≡ true → (b || has (names_of (view_of rows)) n) ≡ true
    → (has (names_of (view_of rows)) n ≡ true → view_of (renew_name n e rows) ≡ put_entry n e (view_of rows))
    → (row.0, (renew b e row.1).entry) ∷ view_of (renew_name n e rows) ≡ (if b then (n, e) ∷ view_of rows else (row.0, row.1.entry) ∷ put_entry n e (view_of rows))
there_step n e row rows true s d t f =
    let p = both_true (not (has (names_of (view_of rows)) row.0)) (are_distinct (names_of (view_of rows))) d in
    ap (λ (k : Name). (k, e) ∷ view_of (renew_name n e rows)) (same_true row.0 n s)
    ∙ ap (λ (l : View). (n, e) ∷ l) (missed n e rows (ap (has (names_of (view_of rows))) (sym (same_true row.0 n s)) ∙ not_true (has (names_of (view_of rows)) row.0) p.0))
there_step n e row rows false s d t f = ap (λ (l : View). (row.0, row.1.entry) ∷ l) (f t)

-- the entry of a name that is there
pub renewed : (n : Name) (e : Entry) (rows : Rows) → are_distinct (names_of (view_of rows)) ≡ true → has (names_of (view_of rows)) n ≡ true → view_of (renew_name n e rows) ≡ put_entry n e (view_of rows)
renewed n e [] d t = absurd (false≢true t)
renewed n e (row ∷ rows) d t =
    let p = both_true (not (has (names_of (view_of rows)) row.0)) (are_distinct (names_of (view_of rows))) d in
    ap (λ b. (row.0, (renew b e row.1).entry) ∷ view_of (renew_name n e rows)) (nat_list_eq_equiv.symm n row.0)
    ∙ there_step n e row rows (same_name row.0 n) refl d t (renewed n e rows p.1)

-- and with what the name lists, all is listed as before

alike_step : (list : Option Entry → List Name) (n m : Name) (e : Entry) (view : View) (b : Bool) → (b ≡ true → n ≡ m) → list (at view n) ≡ list (Some e) → list (if b then Some e else at view m) ≡ list (at view m)
alike_step list n m e view true f h = sym h ∙ ap (λ k. list (at view k)) (f refl)
alike_step list n m e view false f h = refl

alike_turned : (list : Option Entry → List Name) (n : Name) (e : Entry) (view new : View) (sets : Sets) → new ≡ put_entry n e view → list (at view n) ≡ list (Some e) → IsTurned list view sets → IsTurned list new sets
alike_turned list n e view new sets is h t = record {
  is = λ k m. t.is k m ∙ ap (λ l. has l k) (sym (ap list (ap (λ (v : View). at v m) is ∙ put_at n e view m) ∙ alike_step list n m e view (same_name n m) (same_true n m) h));
}

module _ (n : Name) (e : Entry) (rows new : Rows) (importers acceptors : Sets) (is : new ≡ renew_name n e rows) (h : lists_alike (at (view_of rows) n) e.analysis ≡ true) (a : AreIndexed rows importers acceptors) where
  pub renewed_view : view_of new ≡ put_entry n e (view_of rows)
  renewed_view = ap view_of is ∙ renewed n e rows a.distinct (sym (named (view_of rows) n) ∙ (alike (at (view_of rows) n) e.analysis h).there)

  pub renewed_indexed : AreIndexed new importers acceptors
  renewed_indexed =
      let like = alike (at (view_of rows) n) e.analysis h in
      record {
        distinct = ap (λ (r : Rows). are_distinct (names_of (view_of r))) is ∙ ap are_distinct (renewed_names n e rows) ∙ a.distinct;
        staying = ap are_staying is ∙ renewed_staying n e rows ∙ a.staying;
        imports = alike_turned imports_of n e (view_of rows) (view_of new) importers renewed_view like.imports a.imports;
        accepted = alike_turned accepted_of n e (view_of rows) (view_of new) acceptors renewed_view like.accepted a.accepted;
      }
