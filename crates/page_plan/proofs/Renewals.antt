-- Updates in which each module that is replaced imports what it imported before, and besides only what is
-- reached: the view, what is reached, and what an Applied answers.
use Rattle.std.proofs.Common.{◌≡◌, ◌↔◌, ◌⊎◌, inl, inr, ℕ, zero, suc, ◌<◌, ◌+◌, Bool, true, false, List, [], ◌∷◌, ◌++◌, length, take, drop, get_or, refl, ap, sym, ◌∙◌, arith}
use Rattle.std.specs.Prelude.{◌||◌, ◌&&◌, ◌==◌, not, cond, filter, slice_get, option_map, Option, Some, None, is_some, if◌then◌else◌}
use Rattle.std.specs.Cmp.Lexicographic.{slice_cmp}
use Rattle.std.specs.Ordering.{nat_cmp}
use Rattle.std.proofs.Math.Path.{subst}
use Rattle.std.proofs.lemmas.Bool.{eq-eqb, eqb-true, false≢true}
use Rattle.std.proofs.lemmas.List.{drop_all, drop_more, take_more}
use Rattle.std.proofs.lemmas.List.Elements.{filter_agree}
use Rattle.std.proofs.lemmas.List.Kept.{IsStrictlySortedBy-filter}
use Rattle.std.proofs.lemmas.Map.Keys.{sorted_tail}
use Rattle.std.proofs.lemmas.Option.{same_Some}
use Prim.{⊥}
use Rattle.hmr_types.specs.declared.words.PlanKind.TheVariants.{Update}
use Rattle.core_model.specs.Names.{Name, same_name, has, at, names_of, collect, sorted, with_entry}
use Rattle.core_model.specs.Paths.{Reaches}
use Rattle.core_model.specs.View.{View, Entry, imports, imports_of, is_in, reached_in, dropped_of, table_of}
use Rattle.core_model.specs.Page.{Plan, entry_at, kept_or_staged, met_of, new_entry, new_view, plan_imports, unfetched_of, unmet_entry}
use Rattle.core_model.specs.Requests.{applied_row, differing, done, row_differing, row_unfetched, version_at}
use Rattle.core_model.proofs.Naming.{both_true, filtered_from, filtered_in, head_has, more_cases, no_names, or_cases, same_test, same_true, sorted_has, tail_has}
use Rattle.core_model.proofs.Planning.{at_new, met_is}
use Rattle.core_model.proofs.Reaching.{reaches_on, reaches_start, reaches_within}
use Rattle.core_model.proofs.Tables.{named}
use Rattle.core_model.proofs.Views.{reached_is}
use Rattle.module_graph.proofs.Sorting.{same_rising, sorted_rising}
use Rattle.page_plan.specs.Renewals.{IsClosed, IsGrowth, IsToldOf, are_fitting, fetched_of, is_fitting_at, is_growing, renewed_view}
use Rattle.page_plan.proofs.Comparing.{at_table, drop_found, drop_none, table_names}
use Rattle.page_plan.proofs.Placing.{IsRising, all_names, at_all, at_head, fetched_append, fetched_there, not_behind, same_rows}
use Rattle.page_plan.proofs.Growing.{IsFound, all_reached, growing_found, growth_found, update_is}

-- The view that a plan makes rises by name.

named_step : (n : Name) (o : Option Entry) (rows : View) (names : List Name) → names_of rows ≡ names → names_of (with_entry n o rows) ≡ cond (is_some o) (n ∷ names) names
named_step n None rows names e = e
named_step n (Some x) rows names e = ap (λ l. n ∷ l) e

collected_names : (get : Name → Option Entry) (names : List Name) → names_of (collect get names) ≡ filter (λ n. is_some (get n)) names
collected_names get [] = refl
collected_names get (n ∷ names) = named_step n (get n) (collect get names) (filter (λ m. is_some (get m)) names) (collected_names get names)

pub made_rises : (roots : List Name) (p : Plan) (view : View) → IsRising (names_of (new_view roots p view))
made_rises roots p view =
    let get : Name → Option Entry = λ n. new_entry (has (met_of roots p view) n) p view n in
    let names : List Name = sorted (met_of roots p view ++ names_of view) in
    subst IsRising (sym (collected_names get names)) (IsStrictlySortedBy-filter (slice_cmp nat_cmp) (λ n. is_some (get n)) names (sorted_rising (met_of roots p view ++ names_of view)))

-- The view with what was fetched.

module _ (p : Plan) (view : View) (f : IsFound p view) where
  pub renewed_names : names_of (renewed_view p view) ≡ names_of view
  renewed_names = all_names (fetched_of p p.replaced) view (fetched_there (λ n. at p.staged n) p.replaced view f.there)

  pub at_renewed : (n : Name) → at (renewed_view p view) n ≡ (if has p.replaced n then at p.staged n else at view n)
  at_renewed n = at_all (λ k. at p.staged k) p.replaced f.fetched view n

  -- what isn't replaced has its old entry
  pub kept_at : (n : Name) → has p.replaced n ≡ false → at (renewed_view p view) n ≡ at view n
  kept_at n e = at_renewed n ∙ ap (λ b. if b then at p.staged n else at view n) e

  pub renewed_is_in : (n : Name) → is_in (renewed_view p view) n ≡ is_in view n
  renewed_is_in n = named (renewed_view p view) n ∙ ap (λ l. has l n) renewed_names ∙ sym (named view n)

-- Such an update.

module _ (roots : List Name) (p : Plan) (view : View) (g : IsGrowth roots p view) where
  is_found : IsFound p view
  is_found = growth_found roots p view g

  kind_is : p.kind ≡ Update
  kind_is = update_is p.kind g.update

  -- what a module imports after the update it imported before, or it is reached; and it imports what it did
  edge_before : (n m : Name) → imports (renewed_view p view) n m ≡ true → (imports view n m ≡ true) ⊎ Reaches (imports view) roots m
  edge_before n m h = by (has p.replaced n) refl (ap (λ o. has (imports_of o) m) (sym (at_renewed p view is_found n)) ∙ h)
    where
      by : (b : Bool) → has p.replaced n ≡ b → has (imports_of (if b then at p.staged n else at view n)) m ≡ true → (imports view n m ≡ true) ⊎ Reaches (imports view) roots m
      by true t k = (g.each n t).further m k
      by false t k = inl k

  edge_after : (n m : Name) → imports view n m ≡ true → imports (renewed_view p view) n m ≡ true
  edge_after n m h = ap (λ o. has (imports_of o) m) (at_renewed p view is_found n) ∙ by (has p.replaced n) refl
    where
      by : (b : Bool) → has p.replaced n ≡ b → has (imports_of (if b then at p.staged n else at view n)) m ≡ true
      by true t = (g.each n t).kept m h
      by false t = h

  kept_step : (b : Bool) (kept staged : Option Entry) → is_some kept ≡ true → kept_or_staged Update b kept staged ≡ (if b then staged else kept)
  kept_step true kept staged t = refl
  kept_step false None staged t = absurd (false≢true t)
  kept_step false (Some e) staged t = refl

  -- the plan's entry of a module of the view
  entry_is : (n : Name) → is_in view n ≡ true → entry_at p view n ≡ at (renewed_view p view) n
  entry_is n t = ap (λ k. kept_or_staged k (has p.replaced n) (at view n) (at p.staged n)) kind_is ∙ kept_step (has p.replaced n) (at view n) (at p.staged n) t ∙ sym (at_renewed p view is_found n)

  same_edges : (n m : Name) → is_in view n ≡ true → plan_imports p view n m ≡ imports (renewed_view p view) n m
  same_edges n m t = ap (λ o. has (imports_of o) m) (entry_is n t)

  -- one edge more from what was reached
  reached_on : (n m : Name) → Reaches (imports view) roots n → imports (renewed_view p view) n m ≡ true → Reaches (imports view) roots m
  reached_on n m r h = by (edge_before n m h)
    where
      by : (imports view n m ≡ true) ⊎ Reaches (imports view) roots m → Reaches (imports view) roots m
      by (inl e) = reaches_on (imports view) roots n m r e
      by (inr s) = s

  pub reached_renewed : (m : Name) → Reaches (imports (renewed_view p view)) roots m ↔ Reaches (imports view) roots m
  reached_renewed m = (
    reaches_within (imports (renewed_view p view)) roots (Reaches (imports view) roots) (reaches_start (imports view) roots) reached_on m,
    reaches_within (imports view) roots (Reaches (imports (renewed_view p view)) roots) (reaches_start (imports (renewed_view p view)) roots) (λ n k r by. reaches_on (imports (renewed_view p view)) roots n k r (edge_after n k by)) m,
  )

  -- nothing else is dropped
  pub dropped_renewed : dropped_of (renewed_view p view) roots ≡ dropped_of view roots
  dropped_renewed =
      let reached : (m : Name) → has (reached_in (renewed_view p view) roots) m ≡ has (reached_in view roots) m =
      λ m. same_test _ _
      (λ t. (reached_is view roots m).1 ((reached_renewed m).0 ((reached_is (renewed_view p view) roots m).0 t)))
      (λ t. (reached_is (renewed_view p view) roots m).1 ((reached_renewed m).1 ((reached_is view roots m).0 t))) in
      ap (λ l. sorted (filter (λ n. not (has (reached_in (renewed_view p view) roots) n)) l)) (renewed_names p view is_found)
      ∙ ap sorted (filter_agree (λ n. not (has (reached_in (renewed_view p view) roots) n)) (λ n. not (has (reached_in view roots) n)) (λ n. ap not (reached n)) (names_of view))

  -- on a page from which nothing is missing
  module _ (closed : IsClosed roots view) where
    pub renewed_closed : IsClosed roots (renewed_view p view)
    renewed_closed n r = renewed_is_in p view is_found n ∙ closed n ((reached_renewed n).0 r)

    met_reached : (m : Name) → Reaches (plan_imports p view) roots m → Reaches (imports view) roots m
    met_reached m r = reaches_within (plan_imports p view) roots (Reaches (imports view) roots) (reaches_start (imports view) roots)
        (λ n k s by. reached_on n k s (sym (same_edges n k (closed n s)) ∙ by)) m r

    reached_met : (m : Name) → Reaches (imports view) roots m → Reaches (plan_imports p view) roots m
    reached_met m r = (reaches_within (imports view) roots (λ k. Reaches (imports view) roots k × Reaches (plan_imports p view) roots k)
        (λ k c. (reaches_start (imports view) roots k c, reaches_start (plan_imports p view) roots k c))
        (λ n k s by. (reaches_on (imports view) roots n k s.0 by, reaches_on (plan_imports p view) roots n k s.1 (same_edges n k (closed n s.0) ∙ edge_after n k by))) m r).1

    met_there : (m : Name) → has (met_of roots p view) m ≡ true → is_in view m ≡ true
    met_there m t = closed m (met_reached m ((met_is roots p view m).0 t))

    some_entry : (n : Name) → is_in view n ≡ true → is_some (entry_at p view n) ≡ true
    some_entry n t = ap is_some (entry_is n t) ∙ renewed_is_in p view is_found n ∙ t

    -- nothing is left to be fetched
    pub none_unfetched : unfetched_of roots p view ≡ []
    none_unfetched = no_names (unfetched_of roots p view) (λ n t.
        let q = filtered_from (λ k. not (is_some (entry_at p view k))) (met_of roots p view) n (sym (sorted_has (filter (λ k. not (is_some (entry_at p view k))) (met_of roots p view)) n) ∙ t) in
        false≢true (sym (ap not (some_entry n (met_there n q.1))) ∙ q.0))

    -- where each module is reached
    module _ (rising : IsRising (names_of view)) (whole : dropped_of view roots ≡ []) where
      not_there : (n : Name) (b : Bool) → has p.replaced n ≡ b → is_in view n ≡ false → (if b then at p.staged n else at view n) ≡ at view n
      not_there n true e t = absurd (false≢true (sym t ∙ is_found.there n e))
      not_there n false e t = refl

      entry_by : (n : Name) (there met : Bool) → is_in view n ≡ there → has (met_of roots p view) n ≡ met → new_entry met p view n ≡ at (renewed_view p view) n
      entry_by n true true t m = entry_is n t
      entry_by n true false t m = absurd (false≢true (sym m ∙ (met_is roots p view n).1 (reached_met n (all_reached roots view whole n t))))
      entry_by n false true t m = absurd (false≢true (sym t ∙ met_there n m))
      entry_by n false false t m = ap (λ k. unmet_entry k (at view n)) kind_is ∙ sym (at_renewed p view is_found n ∙ not_there n (has p.replaced n) refl t)

      at_made : (n : Name) → at (new_view roots p view) n ≡ at (renewed_view p view) n
      at_made n = at_new roots p view n ∙ entry_by n (is_in view n) (has (met_of roots p view) n) refl refl

      -- the view that the plan makes
      pub view_is : new_view roots p view ≡ renewed_view p view
      view_is = same_rows (new_view roots p view) (renewed_view p view) (made_rises roots p view)
          (same_rising (names_of (new_view roots p view)) (names_of (renewed_view p view)) (made_rises roots p view) (subst IsRising (sym (renewed_names p view is_found)) rising)
          (λ n. sym (named (new_view roots p view) n) ∙ ap is_some (at_made n) ∙ named (renewed_view p view) n))
          at_made

-- An Applied of such an update.

none_differ : (told : List (Name × ℕ)) (names : List Name) → filter (λ n. not (version_at told n == version_at told n)) names ≡ []
none_differ told [] = refl
none_differ told (n ∷ names) = ap (λ b. cond (not b) (n ∷ filter (λ k. not (version_at told k == version_at told k)) names) (filter (λ k. not (version_at told k == version_at told k)) names)) (eq-eqb (version_at told n) (version_at told n) refl) ∙ none_differ told names

-- a table beside itself
pub same_told : (told kept : List (Name × ℕ)) → told ≡ kept → row_differing (differing told kept) told kept ≡ done
same_told told kept e = subst (λ l. row_differing (differing told l) told l ≡ done) e (ap (λ ns. row_differing ns told told) (none_differ told (sorted (names_of told ++ names_of told))))

-- all fits where the table told is that of the view with what was fetched
pub growth_fits : (roots : List Name) (p : Plan) (view : View) (told : List (Name × ℕ)) → IsGrowth roots p view → IsClosed roots view → IsRising (names_of view) → dropped_of view roots ≡ [] → told ≡ table_of (renewed_view p view) → applied_row roots p view told ≡ done
growth_fits roots p view told g closed rising whole e =
    ap (λ ns. row_unfetched ns (row_differing (differing told (table_of (new_view roots p view))) told (table_of (new_view roots p view)))) (none_unfetched roots p view g closed)
    ∙ same_told told (table_of (new_view roots p view)) (e ∙ ap table_of (sym (view_is roots p view g closed rising whole)))

-- From a page whose plan is applied nothing is missing.

module _ (roots : List Name) (p : Plan) (view : View) (all : unfetched_of roots p view ≡ []) where
  met_entry : (n : Name) → Reaches (plan_imports p view) roots n → at (new_view roots p view) n ≡ entry_at p view n
  met_entry n r = at_new roots p view n ∙ ap (λ b. new_entry b p view n) ((met_is roots p view n).1 r)

  reached_is_met : (m : Name) → Reaches (imports (new_view roots p view)) roots m → Reaches (plan_imports p view) roots m
  reached_is_met m r = reaches_within (imports (new_view roots p view)) roots (Reaches (plan_imports p view) roots) (reaches_start (plan_imports p view) roots)
      (λ n k s by. reaches_on (plan_imports p view) roots n k s (ap (λ o. has (imports_of o) k) (sym (met_entry n s)) ∙ by)) m r

  met_some : (n : Name) (b : Bool) → is_some (entry_at p view n) ≡ b → Reaches (plan_imports p view) roots n → b ≡ true
  met_some n true e r = refl
  met_some n false e r = absurd (false≢true (ap (λ l. has l n) (sym all) ∙ sorted_has (filter (λ k. not (is_some (entry_at p view k))) (met_of roots p view)) n
      ∙ filtered_in (λ k. not (is_some (entry_at p view k))) (met_of roots p view) n (ap not e) ((met_is roots p view n).1 r)))

  pub made_closed : IsClosed roots (new_view roots p view)
  made_closed n r =
      let met = reached_is_met n r in
      ap is_some (met_entry n met) ∙ met_some n (is_some (entry_at p view n)) refl met

-- The table told, beside the view.

fitting_names : (p : Plan) (told : List (Name × ℕ)) (view : View) → are_fitting p told view ≡ true → names_of told ≡ names_of view
fitting_names p [] [] h = refl
fitting_names p [] (row ∷ view) h = absurd (false≢true h)
fitting_names p (t ∷ told) [] h = absurd (false≢true h)
fitting_names p (t ∷ told) (row ∷ view) h =
    let q = both_true (is_fitting_at p t (Some row)) (are_fitting p told view) h in
    ap (λ k. k ∷ names_of told) (same_true t.0 row.0 (both_true (same_name t.0 row.0) (t.1 == row.1.version || has p.replaced row.0) q.0).0) ∙ ap (λ l. row.0 ∷ l) (fitting_names p told view q.1)

fitting_step : (p : Plan) (n : Name) (t : Name × ℕ) (row : Name × Entry) (told : List (Name × ℕ)) (view : View) (b : Bool) → (b ≡ true → row.0 ≡ n) → has p.replaced n ≡ false → (t.1 == row.1.version || has p.replaced row.0) ≡ true
    → at told n ≡ at (table_of view) n → (if b then Some t.1 else at told n) ≡ (if b then Some row.1.version else at (table_of view) n)
fitting_step p n t row told view true f k v h = by (or_cases (t.1 == row.1.version) (has p.replaced row.0) v)
  where
    by : ((t.1 == row.1.version) ≡ true) ⊎ (has p.replaced row.0 ≡ true) → Some t.1 ≡ Some row.1.version
    by (inl e) = ap Some (eqb-true t.1 row.1.version e)
    by (inr e) = absurd (false≢true (sym k ∙ ap (has p.replaced) (sym (f refl)) ∙ e))
fitting_step p n t row told view false f k v h = h

-- a name that isn't replaced is told at its version
fitting_at : (p : Plan) (n : Name) → has p.replaced n ≡ false → (told : List (Name × ℕ)) (view : View) → are_fitting p told view ≡ true → at told n ≡ at (table_of view) n
fitting_at p n k [] [] h = refl
fitting_at p n k [] (row ∷ view) h = absurd (false≢true h)
fitting_at p n k (t ∷ told) [] h = absurd (false≢true h)
fitting_at p n k (t ∷ told) (row ∷ view) h =
    let q = both_true (is_fitting_at p t (Some row)) (are_fitting p told view) h in
    let s = both_true (same_name t.0 row.0) (t.1 == row.1.version || has p.replaced row.0) q.0 in
    ap (λ j. if same_name j n then Some t.1 else at told n) (same_true t.0 row.0 s.0)
    ∙ fitting_step p n t row told view (same_name row.0 n) (same_true row.0 n) k s.1 (fitting_at p n k told view q.1)

-- what stands at a place of rising rows is found by its name
placed : (told : List (Name × ℕ)) (i : ℕ) (n : Name) (v : ℕ) → IsRising (names_of told) → slice_get told i ≡ Some (n, v) → (at told n ≡ Some v) × (has (names_of told) n ≡ true)
placed [] zero n v s e = absurd (false≢true (ap is_some e))
placed [] (suc i) n v s e = absurd (false≢true (ap is_some e))
placed (t ∷ told) zero n v s e =
    let is : t ≡ (n, v) = same_Some t (n, v) e in
    (ap (λ (r : Name × ℕ). at (r ∷ told) n) is ∙ at_head n v told, ap (λ (r : Name × ℕ). has (r.0 ∷ names_of told) n) is ∙ head_has n (names_of told))
placed (t ∷ told) (suc i) n v s e =
    let q = placed told i n v (sorted_tail (slice_cmp nat_cmp) t.0 (names_of told) s) e in
    (past (same_name t.0 n) (λ k. false≢true (sym (not_behind t.0 (names_of told) s) ∙ ap (has (names_of told)) (same_true t.0 n k) ∙ q.1)) ∙ q.0, tail_has t.0 (names_of told) n q.1)
  where
    past : (b : Bool) → (b ≡ true → ⊥) → (if b then Some t.1 else at told n) ≡ at told n
    past true f = absurd (f refl)
    past false f = refl

-- the table told is that of the view with what was fetched
pub told_renewed : (p : Plan) (view : View) (told : List (Name × ℕ)) → is_growing p view ≡ true → IsRising (names_of view) → are_fitting p told view ≡ true → ((n : Name) → has p.replaced n ≡ true → IsToldOf p told n) → told ≡ table_of (renewed_view p view)
told_renewed p view told h rising fits each_told =
    let f : IsFound p view = growing_found p view h in
    let names : names_of told ≡ names_of view = fitting_names p told view fits in
    let rises : IsRising (names_of told) = subst IsRising (sym names) rising in
    same_rows told (table_of (renewed_view p view)) rises (names ∙ sym (table_names (renewed_view p view) ∙ renewed_names p view f)) (λ n. by n rises (has p.replaced n) refl)
  where
    by : (n : Name) → IsRising (names_of told) → (b : Bool) → has p.replaced n ≡ b → at told n ≡ at (table_of (renewed_view p view)) n
    by n rises true e =
        let t : IsToldOf p told n = each_told n e in
        (placed told t.place n t.entry.version rises t.row).0
        ∙ sym (at_table (renewed_view p view) n ∙ ap (option_map (λ (x : Entry). x.version)) (at_renewed p view (growing_found p view h) n ∙ ap (λ b. if b then at p.staged n else at view n) e ∙ t.fetched))
    by n rises false e = fitting_at p n e told view fits ∙ at_table view n ∙ sym (at_table (renewed_view p view) n ∙ ap (option_map (λ (x : Entry). x.version)) (at_renewed p view (growing_found p view h) n ∙ ap (λ b. if b then at p.staged n else at view n) e))

-- One row more of the table.

fitting_found : (p : Plan) (told : List (Name × ℕ)) (view : View) (i : ℕ) (t : Name × ℕ) (row : Name × Entry) → i < length told → t ≡ get_or told i t → Some row ≡ slice_get view i
    → are_fitting p (drop i told) (drop i view) ≡ (is_fitting_at p t (Some row) && are_fitting p (drop (i + 1) told) (drop (i + 1) view))
fitting_found p told view i t row h is found =
    let next : suc i ≡ i + 1 = omega arith in
    ap (λ l. are_fitting p l (drop i view)) (drop_more told i t h ∙ ap (λ x. x ∷ drop (i + 1) told) (sym is))
    ∙ ap (are_fitting p (t ∷ drop (i + 1) told)) (drop_found view i row found ∙ ap (λ k. row ∷ drop k view) next)

fitting_lost : (p : Plan) (told : List (Name × ℕ)) (view : View) (i : ℕ) (t : Name × ℕ) → i < length told → None ≡ slice_get view i → are_fitting p (drop i told) (drop i view) ≡ false
fitting_lost p told view i t h lost = ap (λ l. are_fitting p l (drop i view)) (drop_more told i t h) ∙ ap (are_fitting p (get_or told i t ∷ drop (i + 1) told)) (drop_none view i lost)

-- a row that doesn't fit
pub fitting_fails : (p : Plan) (told : List (Name × ℕ)) (view : View) (i : ℕ) (t : Name × ℕ) (o : Option (Name × Entry)) (fits : Bool) → i < length told → t ≡ get_or told i t → o ≡ slice_get view i → fits ≡ is_fitting_at p t o → fits ≡ false
    → are_fitting p (drop i told) (drop i view) ≡ are_fitting p told view → false ≡ are_fitting p told view
fitting_fails p told view i t None fits h is found e f all = sym (fitting_lost p told view i t h found) ∙ all
fitting_fails p told view i t (Some row) fits h is found e f all =
    sym (fitting_found p told view i t row h is found ∙ ap (λ b. b && are_fitting p (drop (i + 1) told) (drop (i + 1) view)) (sym e ∙ f)) ∙ all

-- and one that does
pub fitting_more : (p : Plan) (told : List (Name × ℕ)) (view : View) (i : ℕ) (t : Name × ℕ) (o : Option (Name × Entry)) (fits : Bool) → i < length told → t ≡ get_or told i t → o ≡ slice_get view i → fits ≡ is_fitting_at p t o → fits ≡ true
    → are_fitting p (drop i told) (drop i view) ≡ are_fitting p told view → are_fitting p (drop (i + 1) told) (drop (i + 1) view) ≡ are_fitting p told view
fitting_more p told view i t None fits h is found e f all = absurd (false≢true (sym e ∙ f))
fitting_more p told view i t (Some row) fits h is found e f all =
    sym (fitting_found p told view i t row h is found ∙ ap (λ b. b && are_fitting p (drop (i + 1) told) (drop (i + 1) view)) (sym e ∙ f)) ∙ all

-- past the last row the view ends, or doesn't fit
pub fitting_end : {X : Type 0} (p : Plan) (told : List (Name × ℕ)) (view : View) (i : ℕ) (f : X → Name × Entry) (o : Option X) (ends : Bool) → i ≡ length told → option_map f o ≡ slice_get view i → is_some o ≡ not ends
    → are_fitting p (drop i told) (drop i view) ≡ are_fitting p told view → ends ≡ are_fitting p told view
fitting_end p told view i f None true is found e all = sym (ap (λ l. are_fitting p l (drop i view)) (ap (λ k. drop k told) is ∙ drop_all (length told) told (omega arith)) ∙ ap (are_fitting p []) (drop_none view i found)) ∙ all
fitting_end p told view i f None false is found e all = absurd (false≢true e)
fitting_end p told view i f (Some x) true is found e all = absurd (false≢true (sym e))
fitting_end p told view i f (Some x) false is found e all = sym (ap (λ l. are_fitting p l (drop i view)) (ap (λ k. drop k told) is ∙ drop_all (length told) told (omega arith)) ∙ ap (are_fitting p []) (drop_found view i (f x) found)) ∙ all

-- what stands at a place of the list
pub placed_row : {X : Type 0} (rows : List X) (i : ℕ) (d : X) → i < length rows → slice_get rows i ≡ Some (get_or rows i d)
placed_row [] i d h = absurd (omega (arith, h))
placed_row (x ∷ rows) zero d h = refl
placed_row (x ∷ rows) (suc i) d h = placed_row rows i d (omega (arith, h))

-- a row with this name and this version
pub row_is : (t : Name × ℕ) (n : Name) (v : ℕ) → same_name t.0 n ≡ true → (t.1 == v) ≡ true → t ≡ (n, v)
row_is t n v s e = ap (λ k. (k, t.1)) (same_true t.0 n s) ∙ ap (λ w. (n, w)) (eqb-true t.1 v e)

-- One name more that is told, and one more whose module was fetched.

pub told_more : (p : Plan) (told : List (Name × ℕ)) (names : List Name) (i : ℕ) (x : Name) → i < length names → x ≡ get_or names i x → ((n : Name) → has (take i names) n ≡ true → IsToldOf p told n) → IsToldOf p told x → (n : Name) → has (take (i + 1) names) n ≡ true → IsToldOf p told n
told_more p told names i x h is f t n c = by (more_cases (take i names) (get_or names i x) n (ap (λ l. has l n) (sym (take_more names i x h)) ∙ c))
  where
    by : (has (take i names) n ≡ true) ⊎ (get_or names i x ≡ n) → IsToldOf p told n
    by (inl k) = f n k
    by (inr e) = subst (IsToldOf p told) (is ∙ e) t

pub fetched_more : (p : Plan) (names : List Name) (i : ℕ) (x : Name) (o : Option Entry) (old new : List (Name × Entry)) → i < length names → x ≡ get_or names i x → old ≡ fetched_of p (take i names) → o ≡ at p.staged x → new ≡ old ++ with_entry x o [] → new ≡ fetched_of p (take (i + 1) names)
fetched_more p names i x o old new h is before found after =
    after ∙ ap (λ l. l ++ with_entry x o []) before
    ∙ ap (λ e. fetched_of p (take i names) ++ with_entry x e []) found
    ∙ sym (fetched_append (λ n. at p.staged n) (take i names) (x ∷ []))
    ∙ ap (fetched_of p) (ap (λ k. take i names ++ k ∷ []) is ∙ sym (take_more names i x h))

-- an update of no module makes the view that there was
pub told_as_it_is : (view : View) (told : List (Name × ℕ)) → told ≡ table_of view → row_differing (differing told (table_of view)) told (table_of view) ≡ done
told_as_it_is view told e = same_told told (table_of view) e
