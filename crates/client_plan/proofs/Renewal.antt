-- Where an update brings no module to the page, its modules stay in their places, and those that get a new
-- instance have new entries.
use Rattle.std.proofs.Common.{◌≡◌, ◌⊎◌, inl, inr, ℕ, Bool, true, false, List, [], ◌∷◌, ◌++◌, map, refl, ap, sym, ◌∙◌}
use Rattle.std.specs.Prelude.{◌||◌, ◌&&◌, not, Option, Some, None, is_some, if◌then◌else◌}
use Rattle.std.specs.Cmp.Lexicographic.{slice_cmp, nat_list_eq_equiv}
use Rattle.std.specs.List.{list_all}
use Rattle.std.specs.Ordering.{nat_cmp, is_lt}
use Rattle.std.proofs.Math.Path.{subst}
use Rattle.std.proofs.lemmas.Bool.{false≢true}
use Rattle.hmr_types.specs.declared.words.PlanKind.{PlanKind}
use Rattle.hmr_types.specs.declared.words.PlanKind.TheVariants.{Load, Reload, Update}
use Rattle.core_model.specs.Names.{Name, at, collect, has, names_of, put_name, rising, same_name, sorted, with_entry}
use Rattle.core_model.specs.Page.{Plan, entry_at, kept_or_staged, met_of, new_entry, new_view, unmet_entry}
use Rattle.core_model.specs.View.{Entry, View, table_of}
use Rattle.core_model.proofs.Naming.{both_true, false_from, filtered_has, filtered_from, has_append, has_cases, head_has, neither, same_true, tail_has, true_same}
use Rattle.core_model.proofs.Rising.{tail_rises}
use Rattle.core_model.proofs.Tables.{named}
use Rattle.client_model.specs.Linking.{is_kept, is_kept_kind, new_names, next_needed}
use Rattle.client_model.specs.Order.{evaluation_order}
use Rattle.client_model.specs.Runtime.{Runtime}
use Rattle.module_graph.specs.Entries.{put_entry}
use Rattle.page_plan.specs.Plans.{IsSamePlan}
use Rattle.page_plan.specs.Views.{put_found}
use Rattle.page_plan.proofs.Making.{behind, below_apart, same_sorted}
use Rattle.page_plan.proofs.Same.{entry_same}
use Rattle.client_plan.specs.Renewing.{IsRenewing, entry_or, is_renewing, put_each, put_version, put_versions, renewed, renewed_view}
use Rattle.client_plan.proofs.Paging.{left_there, met_left}

-- Names that rise are in order.

put_first : (n : Name) (names : List Name) → rising (n ∷ names) ≡ true → put_name n names ≡ n ∷ names
put_first n [] r = refl
put_first n (m ∷ names) r =
    let low : is_lt (slice_cmp nat_cmp n m) ≡ true = (both_true (is_lt (slice_cmp nat_cmp n m)) _ r).0 in
    ap (λ b. if b then m ∷ names else (if is_lt (slice_cmp nat_cmp n m) then n ∷ (m ∷ names) else m ∷ put_name n names)) (below_apart n m low)
    ∙ ap (λ b. if b then n ∷ (m ∷ names) else m ∷ put_name n names) low

sorted_is : (names : List Name) → rising names ≡ true → sorted names ≡ names
sorted_is [] r = refl
sorted_is (n ∷ names) r = ap (put_name n) (sorted_is names (tail_rises n names r)) ∙ put_first n names r

-- a name that rises isn't behind itself
not_behind : (n : Name) (names : List Name) → rising (n ∷ names) ≡ true → has names n ≡ false
not_behind n names r = false_from (has names n) (λ h. false≢true (sym (below_apart n n (behind n names r n h)) ∙ true_same n n refl))

-- Entries that are collected over the names of a view.

gather : (get : Name → Option Entry) (g : Name → Entry → Entry) (rows : View) → rising (names_of rows) ≡ true → ((n : Name) (e : Entry) → at rows n ≡ Some e → get n ≡ Some (g n e))
    → collect get (names_of rows) ≡ map (λ row. (row.0, g row.0 row.1)) rows
gather get g [] r f = refl
gather get g (row ∷ rows) r f =
    ap (λ o. with_entry row.0 o (collect get (names_of rows))) (f row.0 row.1 here)
    ∙ ap (λ l. (row.0, g row.0 row.1) ∷ l) (gather get g rows (tail_rises row.0 (names_of rows) r) (λ n e h. f n e (later n e h)))
  where
    here : at (row ∷ rows) row.0 ≡ Some row.1
    here = ap (λ b. if b then Some row.1 else at rows row.0) (true_same row.0 row.0 refl)

    later : (n : Name) (e : Entry) → at rows n ≡ Some e → at (row ∷ rows) n ≡ Some e
    later n e h =
        let there : has (names_of rows) n ≡ true = sym (named rows n) ∙ ap is_some h in
        ap (λ b. if b then Some row.1 else at rows n) (below_apart row.0 n (behind row.0 (names_of rows) r n there)) ∙ h

-- The entry that a module of the page then has.

kept_step : (met replaced : Bool) (staged : Option Entry) (e : Entry) → (met ≡ true → is_some (kept_or_staged Update replaced (Some e) staged) ≡ true)
    → (if met then kept_or_staged Update replaced (Some e) staged else unmet_entry Update (Some e)) ≡ Some (entry_or (if not (is_kept_kind Update replaced (Some e)) && met then kept_or_staged Update replaced (Some e) staged else None) e)
kept_step true true None e h = absurd (false≢true (h refl))
kept_step true true (Some x) e h = refl
kept_step true false staged e h = refl
kept_step false true staged e h = refl
kept_step false false staged e h = refl

kept_as : (k : PlanKind) (met replaced : Bool) (old staged : Option Entry) (e : Entry) → k ≡ Update → old ≡ Some e → (met ≡ true → is_some (kept_or_staged k replaced old staged) ≡ true)
    → (if met then kept_or_staged k replaced old staged else unmet_entry k old) ≡ Some (entry_or (if not (is_kept_kind k replaced old) && met then kept_or_staged k replaced old staged else None) e)
kept_as k met replaced old staged e is there =
    subst (λ j. (met ≡ true → is_some (kept_or_staged j replaced old staged) ≡ true) → (if met then kept_or_staged j replaced old staged else unmet_entry j old) ≡ Some (entry_or (if not (is_kept_kind j replaced old) && met then kept_or_staged j replaced old staged else None) e)) (sym is)
    (subst (λ o. (met ≡ true → is_some (kept_or_staged Update replaced o staged) ≡ true) → (if met then kept_or_staged Update replaced o staged else unmet_entry Update o) ≡ Some (entry_or (if not (is_kept_kind Update replaced o) && met then kept_or_staged Update replaced o staged else None) e)) (sym there)
    (kept_step met replaced staged e))

is_some_of : {X : Type 0} (o : Option X) (x : X) → o ≡ Some x → is_some o ≡ true
is_some_of o x e = ap is_some e

or_known : (a b : Bool) → (a ≡ true → b ≡ true) → (a || b) ≡ b
or_known true b f = sym (f refl)
or_known false b f = refl

kept_there : (k : PlanKind) (replaced : Bool) (old : Option Entry) → is_kept_kind k replaced old ≡ true → is_some old ≡ true
kept_there Load replaced old h = absurd (false≢true h)
kept_there Reload replaced old h = absurd (false≢true h)
kept_there Update true old h = absurd (false≢true h)
kept_there Update false old h = h

by_test : {P : Type 0} (b : Bool) → (b ≡ true → P) → (b ≡ false → P) → P
by_test true f g = f refl
by_test false f g = g refl

module _ (r : Runtime) (p : Plan) (renewing : IsRenewing r p) where
  -- what the walk meets is on the page
  pub met_paged : (n : Name) → has (evaluation_order r.roots p r.page.view) n ≡ true → is_some (at r.page.view n) ≡ true
  met_paged n h = by_test (is_kept p r.page.view n) (λ kept. kept_there p.kind (has p.replaced n) (at r.page.view n) kept)
      (λ new. renewing.there n (filtered_has (λ m. not (is_kept p r.page.view m)) (evaluation_order r.roots p r.page.view) n ∙ ap (λ b. not b && has (evaluation_order r.roots p r.page.view) n) new ∙ h))

  all_names : rising (names_of r.page.view) ≡ true → sorted (met_of r.roots p r.page.view ++ names_of r.page.view) ≡ names_of r.page.view
  all_names rises =
      same_sorted (met_of r.roots p r.page.view ++ names_of r.page.view) (names_of r.page.view)
      (λ n. has_append (met_of r.roots p r.page.view) (names_of r.page.view) n
      ∙ or_known (has (met_of r.roots p r.page.view) n) (has (names_of r.page.view) n) (λ h. sym (named r.page.view n) ∙ met_paged n (sym (met_left r.roots p r.page.view n) ∙ h)))
      ∙ sorted_is (names_of r.page.view) rises

  -- the plan's modules are the page's, with new entries
  pub renewed_is : (q : Plan) (names : List Name) → IsSamePlan p q → rising (names_of r.page.view) ≡ true → next_needed p r ≡ None → ((n : Name) → has names n ≡ has (new_names p r) n)
      → renewed_view q r.page.view names ≡ new_view r.roots p r.page.view
  renewed_is q names same rises none named_so =
      sym (gather (λ n. new_entry (has (met_of r.roots p r.page.view) n) p r.page.view n) (renewed q r.page.view names) r.page.view rises entry)
      ∙ ap (collect (λ n. new_entry (has (met_of r.roots p r.page.view) n) p r.page.view n)) (sym (all_names rises))
    where
      entry : (n : Name) (e : Entry) → at r.page.view n ≡ Some e → new_entry (has (met_of r.roots p r.page.view) n) p r.page.view n ≡ Some (renewed q r.page.view names n e)
      entry n e there =
          kept_as p.kind (has (met_of r.roots p r.page.view) n) (has p.replaced n) (at r.page.view n) (at p.staged n) e renewing.kind there
          (λ h. left_there p r none n (sym (met_left r.roots p r.page.view n) ∙ h))
          ∙ ap (λ b. Some (entry_or (if b then entry_at p r.page.view n else None) e))
          (ap (λ b. not (is_kept p r.page.view n) && b) (met_left r.roots p r.page.view n) ∙ sym (filtered_has (λ m. not (is_kept p r.page.view m)) (evaluation_order r.roots p r.page.view) n) ∙ sym (named_so n))
          ∙ ap (λ o. Some (entry_or (if has names n then o else None) e)) (entry_same p q r.page.view same n)

-- Entries in place of a view's own, one after another.

module _ (get : Name → Option Entry) where
  -- a module of the view with its entry, where it is one of these
  abbrev turned : List Name → Name × Entry → Name × Entry
  turned names row = (row.0, entry_or (if has names row.0 then get row.0 else None) row.1)

  none_turned : (rows : View) → map (turned []) rows ≡ rows
  none_turned [] = refl
  none_turned (row ∷ rows) = ap (λ l. row ∷ l) (none_turned rows)

  others_stay : (n : Name) (rows : View) → has (names_of rows) n ≡ false → map (turned (n ∷ [])) rows ≡ rows
  others_stay n [] h = refl
  others_stay n (row ∷ rows) h =
      let apart = neither (same_name row.0 n) (has (names_of rows) n) h in
      ap (λ b. (row.0, entry_or (if b || false then get row.0 else None) row.1) ∷ map (turned (n ∷ [])) rows) (nat_list_eq_equiv.symm n row.0 ∙ apart.0)
      ∙ ap (λ l. row ∷ l) (others_stay n rows apart.1)

  turned_step : (n : Name) (e : Entry) (row : Name × Entry) (rows : View) (b : Bool) → same_name row.0 n ≡ b → get n ≡ Some e → (b ≡ true → has (names_of rows) n ≡ false) → (b ≡ false → put_entry n e rows ≡ map (turned (n ∷ [])) rows)
      → (if b then (n, e) ∷ rows else row ∷ put_entry n e rows) ≡ map (turned (n ∷ [])) (row ∷ rows)
  turned_step n e row rows true s g last more =
      let is : row.0 ≡ n = same_true row.0 n s in
      sym (ap (λ c. (row.0, entry_or (if c || false then get row.0 else None) row.1) ∷ map (turned (n ∷ [])) rows) (true_same n row.0 (sym is))
      ∙ ap (λ o. (row.0, entry_or o row.1) ∷ map (turned (n ∷ [])) rows) (ap get is ∙ g)
      ∙ ap (λ k. (k, e) ∷ map (turned (n ∷ [])) rows) is
      ∙ ap (λ l. (n, e) ∷ l) (others_stay n rows (last refl)))
  turned_step n e row rows false s g last more =
      sym (ap (λ c. (row.0, entry_or (if c || false then get row.0 else None) row.1) ∷ map (turned (n ∷ [])) rows) (nat_list_eq_equiv.symm n row.0 ∙ s)
      ∙ ap (λ l. row ∷ l) (sym (more refl)))

  later_has : (b c : Bool) → (b || c) ≡ true → b ≡ false → c ≡ true
  later_has true c h e = absurd (false≢true (sym e))
  later_has false c h e = h

  put_turned : (n : Name) (e : Entry) (rows : View) → get n ≡ Some e → rising (names_of rows) ≡ true → has (names_of rows) n ≡ true → put_entry n e rows ≡ map (turned (n ∷ [])) rows
  put_turned n e [] g r h = absurd (false≢true h)
  put_turned n e (row ∷ rows) g r h = turned_step n e row rows (same_name row.0 n) refl g
      (λ s. subst (λ m. has (names_of rows) m ≡ false) (same_true row.0 n s) (not_behind row.0 (names_of rows) r))
      (λ s. put_turned n e rows g (tail_rises row.0 (names_of rows) r) (later_has (same_name row.0 n) (has (names_of rows) n) h s))

  without_one : (b : Bool) (k : Name) (x : Entry) → (b ≡ true → get k ≡ None) → entry_or (if b then get k else None) x ≡ x
  without_one true k x f = ap (λ o. entry_or o x) (f refl)
  without_one false k x f = refl

  none_put : (n : Name) (rows : View) → get n ≡ None → map (turned (n ∷ [])) rows ≡ rows
  none_put n [] g = refl
  none_put n (row ∷ rows) g = ap (λ e. (row.0, e) ∷ map (turned (n ∷ [])) rows) (without_one (has (n ∷ []) row.0) row.0 row.1 (λ s. ap get (sym (one_name row.0 s)) ∙ g)) ∙ ap (λ l. row ∷ l) (none_put n rows g)
    where
      one_name : (m : Name) → has (n ∷ []) m ≡ true → n ≡ m
      one_name m s = by (has_cases n [] m s)
        where
          by : (n ≡ m) ⊎ (has [] m ≡ true) → n ≡ m
          by (inl e) = e
          by (inr t) = absurd (false≢true t)

  found_turned : (n : Name) (o : Option Entry) (rows : View) → get n ≡ o → rising (names_of rows) ≡ true → has (names_of rows) n ≡ true → put_found n o rows ≡ map (turned (n ∷ [])) rows
  found_turned n None rows g r h = sym (none_put n rows g)
  found_turned n (Some e) rows g r h = put_turned n e rows g r h

  both_step : (a b : Bool) (o : Option Entry) (e : Entry) → entry_or (if b then o else None) (entry_or (if a || false then o else None) e) ≡ entry_or (if a || b then o else None) e
  both_step true true None e = refl
  both_step true true (Some x) e = refl
  both_step true false o e = refl
  both_step false true o e = refl
  both_step false false o e = refl

  turned_both : (n : Name) (names : List Name) (rows : View) → map (turned names) (map (turned (n ∷ [])) rows) ≡ map (turned (n ∷ names)) rows
  turned_both n names [] = refl
  turned_both n names (row ∷ rows) = ap (λ e. (row.0, e) ∷ map (turned names) (map (turned (n ∷ [])) rows)) (both_step (same_name n row.0) (has names row.0) (get row.0) row.1)
      ∙ ap (λ l. (row.0, entry_or (if has (n ∷ names) row.0 then get row.0 else None) row.1) ∷ l) (turned_both n names rows)

  turned_named : (names : List Name) (rows : View) → names_of (map (turned names) rows) ≡ names_of rows
  turned_named names [] = refl
  turned_named names (row ∷ rows) = ap (λ l. row.0 ∷ l) (turned_named names rows)

  -- the version of an entry in the row of its name
  version_step : (n : Name) (e : Entry) (row : Name × Entry) (rows : View) (b : Bool) → same_name row.0 n ≡ b → get n ≡ Some e → (b ≡ true → has (names_of rows) n ≡ false)
      → (b ≡ false → put_version n (Some e) (table_of rows) ≡ table_of (map (turned (n ∷ [])) rows))
      → (if b then (row.0, e.version) ∷ table_of rows else (row.0, row.1.version) ∷ put_version n (Some e) (table_of rows)) ≡ table_of (map (turned (n ∷ [])) (row ∷ rows))
  version_step n e row rows true s g last more =
      let is : row.0 ≡ n = same_true row.0 n s in
      sym (ap (λ c. (row.0, (entry_or (if c || false then get row.0 else None) row.1).version) ∷ table_of (map (turned (n ∷ [])) rows)) (true_same n row.0 (sym is))
      ∙ ap (λ o. (row.0, (entry_or o row.1).version) ∷ table_of (map (turned (n ∷ [])) rows)) (ap get is ∙ g)
      ∙ ap (λ (w : View). (row.0, e.version) ∷ table_of w) (others_stay n rows (last refl)))
  version_step n e row rows false s g last more =
      sym (ap (λ c. (row.0, (entry_or (if c || false then get row.0 else None) row.1).version) ∷ table_of (map (turned (n ∷ [])) rows)) (nat_list_eq_equiv.symm n row.0 ∙ s)
      ∙ ap (λ l. (row.0, row.1.version) ∷ l) (sym (more refl)))

  version_turned : (n : Name) (o : Option Entry) (rows : View) → get n ≡ o → rising (names_of rows) ≡ true → put_version n o (table_of rows) ≡ table_of (map (turned (n ∷ [])) rows)
  version_turned n None rows g r = ap (λ (w : View). table_of w) (sym (none_put n rows g))
  version_turned n (Some e) [] g r = refl
  version_turned n (Some e) (row ∷ rows) g r = version_step n e row rows (same_name row.0 n) refl g
      (λ s. subst (λ m. has (names_of rows) m ≡ false) (same_true row.0 n s) (not_behind row.0 (names_of rows) r))
      (λ s. version_turned n (Some e) rows g (tail_rises row.0 (names_of rows) r))

  versions_turned : (names : List Name) (rows : View) → rising (names_of rows) ≡ true → put_versions get names (table_of rows) ≡ table_of (map (turned names) rows)
  versions_turned [] rows r = ap (λ (w : View). table_of w) (sym (none_turned rows))
  versions_turned (n ∷ names) rows r =
      ap (put_versions get names) (version_turned n (get n) rows refl r)
      ∙ versions_turned names (map (turned (n ∷ [])) rows) (ap rising (turned_named (n ∷ []) rows) ∙ r)
      ∙ ap (λ (w : View). table_of w) (turned_both n names rows)

-- a plan's entry of what it replaces is what was fetched
replaced_entry : (k : PlanKind) (b : Bool) (old staged : Option Entry) → k ≡ Update → b ≡ true → kept_or_staged k b old staged ≡ staged
replaced_entry k b old staged is e = ap (λ j. kept_or_staged j b old staged) is ∙ ap (λ c. kept_or_staged Update c old staged) e

module _ (q : Plan) (kind : q.kind ≡ Update) where
  each_turned : (names : List Name) (rows : View) → rising (names_of rows) ≡ true → ((n : Name) → has names n ≡ true → has q.replaced n ≡ true) → ((n : Name) → has names n ≡ true → has (names_of rows) n ≡ true)
      → put_each q names rows ≡ map (turned (at q.staged) names) rows
  each_turned [] rows r replaced there = sym (none_turned (at q.staged) rows)
  each_turned (n ∷ names) rows r replaced there =
      let one : put_found n (entry_at q rows n) rows ≡ map (turned (at q.staged) (n ∷ [])) rows =
      ap (λ o. put_found n o rows) (replaced_entry q.kind (has q.replaced n) (at rows n) (at q.staged n) kind (replaced n (head_has n names)))
      ∙ found_turned (at q.staged) n (at q.staged n) rows refl r (there n (head_has n names)) in
      let same : names_of (map (turned (at q.staged) (n ∷ [])) rows) ≡ names_of rows = turned_named (at q.staged) (n ∷ []) rows in
      ap (put_each q names) one
      ∙ each_turned names (map (turned (at q.staged) (n ∷ [])) rows) (ap rising same ∙ r) (λ m h. replaced m (tail_has n names m h)) (λ m h. ap (λ ns. has ns m) same ∙ there m (tail_has n names m h))
      ∙ turned_both (at q.staged) n names rows

  -- the same entries as those of the plan
  as_renewed : (view : View) (names : List Name) (rows : View) → ((n : Name) → has names n ≡ true → has q.replaced n ≡ true) → map (turned (at q.staged) names) rows ≡ map (λ row. (row.0, renewed q view names row.0 row.1)) rows
  as_renewed view names [] f = refl
  as_renewed view names (row ∷ rows) f = ap (λ e. (row.0, e) ∷ map (turned (at q.staged) names) rows) (by (has names row.0) refl) ∙ ap (λ l. (row.0, renewed q view names row.0 row.1) ∷ l) (as_renewed view names rows f)
    where
      by : (b : Bool) → has names row.0 ≡ b → entry_or (if b then at q.staged row.0 else None) row.1 ≡ entry_or (if b then entry_at q view row.0 else None) row.1
      by true h = ap (λ o. entry_or o row.1) (sym (replaced_entry q.kind (has q.replaced row.0) (at view row.0) (at q.staged row.0) kind (f row.0 h)))
      by false h = refl

unkept_step : (k : PlanKind) (replaced : Bool) (kept : Option Entry) → k ≡ Update → is_some kept ≡ true → not (is_kept_kind k replaced kept) ≡ true → replaced ≡ true
unkept_step k true kept is there h = refl
unkept_step k false kept is there h = absurd (false≢true (ap not (sym there) ∙ ap (λ j. not (is_kept_kind j false kept)) (sym is) ∙ h))

-- the plan's modules, where their entries are put in one after another
pub put_is : (r : Runtime) (p q : Plan) (names : List Name) → IsRenewing r p → IsSamePlan p q → rising (names_of r.page.view) ≡ true → next_needed p r ≡ None → names ≡ new_names p r
    → put_each q names r.page.view ≡ new_view r.roots p r.page.view
put_is r p q names renewing same rises none is =
    each_turned q kind names r.page.view rises replaced (λ n h. sym (named r.page.view n) ∙ renewing.there n (new n h))
    ∙ as_renewed q kind r.page.view names r.page.view replaced
    ∙ renewed_is r p renewing q names same rises none (λ n. ap (λ ns. has ns n) is)
  where
    kind : q.kind ≡ Update
    kind = same.kind ∙ renewing.kind

    new : (n : Name) → has names n ≡ true → has (new_names p r) n ≡ true
    new n h = ap (λ ns. has ns n) (sym is) ∙ h

    replaced : (n : Name) → has names n ≡ true → has q.replaced n ≡ true
    replaced n h = same.replaced n ∙ unkept_step p.kind (has p.replaced n) (at r.page.view n) renewing.kind (renewing.there n (new n h))
        (filtered_from (λ m. not (is_kept p r.page.view m)) (evaluation_order r.roots p r.page.view) n (new n h)).0

-- What the code finds.

all_there : (view : View) (names : List Name) → list_all (λ n. is_some (at view n)) names ≡ true → (n : Name) → has names n ≡ true → is_some (at view n) ≡ true
all_there view [] h n t = absurd (false≢true t)
all_there view (m ∷ names) h n t =
    let p = both_true (is_some (at view m)) _ h in
    by p.0 (all_there view names p.1 n) (has_cases m names n t)
  where
    by : is_some (at view m) ≡ true → (has names n ≡ true → is_some (at view n) ≡ true) → (m ≡ n) ⊎ (has names n ≡ true) → is_some (at view n) ≡ true
    by here f (inl e) = subst (λ k. is_some (at view k) ≡ true) e here
    by here f (inr k) = f k

pub is_renewal : (r : Runtime) (p q : Plan) (view : View) (names : List Name) → r.page.view ≡ view → IsSamePlan p q → names ≡ new_names p r → is_renewing q.kind view names ≡ true → IsRenewing r p
is_renewal r p q view names v same is h = by p.kind refl (ap (λ k. is_renewing k view names) (sym same.kind) ∙ h)
  where
    by : (k : PlanKind) → p.kind ≡ k → is_renewing k view names ≡ true → IsRenewing r p
    by Load e t = absurd (false≢true t)
    by Reload e t = absurd (false≢true t)
    by Update e t = record { kind = e; there = λ n k. ap (λ (w : View). is_some (at w n)) v ∙ all_there view names t n (ap (λ ns. has ns n) is ∙ k) }

-- The code's table, and the code's modules.

pub table_renewed : (r : Runtime) (p q : Plan) (view : View) (names : List Name) → IsRenewing r p → IsSamePlan p q → r.page.view ≡ view → rising (names_of view) ≡ true → next_needed p r ≡ None → names ≡ new_names p r
    → renewed_view q view names ≡ new_view r.roots p r.page.view
table_renewed r p q view names renewing same v rises none is =
    ap (λ w. renewed_view q w names) (sym v) ∙ renewed_is r p renewing q names same (ap (λ (w : View). rising (names_of w)) v ∙ rises) none (λ n. ap (λ ns. has ns n) is)

-- the rows of the page's modules, with the versions of these names in the plan
pub versions_renewed : (q : Plan) (view : View) (names : List Name) (rows : List (Name × ℕ)) → rising (names_of view) ≡ true → rows ≡ table_of view → put_versions (entry_at q view) names rows ≡ table_of (renewed_view q view names)
versions_renewed q view names rows rises is = ap (put_versions (entry_at q view) names) is ∙ versions_turned (entry_at q view) names view rises

pub put_renewed : (r : Runtime) (p q : Plan) (view : View) (names : List Name) → IsRenewing r p → IsSamePlan p q → r.page.view ≡ view → rising (names_of view) ≡ true → next_needed p r ≡ None → names ≡ new_names p r
    → put_each q names view ≡ new_view r.roots p r.page.view
put_renewed r p q view names renewing same v rises none is =
    ap (put_each q names) (sym v) ∙ put_is r p q names renewing same (ap (λ (w : View). rising (names_of w)) v ∙ rises) none is
