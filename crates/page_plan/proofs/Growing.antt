-- Lists of imports that have grown, and what the test by these lists finds.
use Rattle.std.proofs.Common.{◌≡◌, ◌⊎◌, inl, inr, ℕ, zero, suc, ◌<◌, ◌≤◌, ◌+◌, Bool, true, false, List, [], ◌∷◌, length, drop, get_or, refl, ap, sym, ◌∙◌, arith}
use Rattle.std.specs.Prelude.{◌&&◌, ◌==◌, not, cond, filter, option_map, Option, Some, None, is_some, if◌then◌else◌}
use Rattle.std.specs.List.{list_all}
use Rattle.std.proofs.lemmas.Bool.{eq-eqb, eqb-true, false≢true}
use Rattle.std.proofs.lemmas.List.{drop_all, drop_more}
use Rattle.std.proofs.lemmas.Option.{same_Some}
use Rattle.hmr_types.specs.declared.words.PlanKind.{PlanKind}
use Rattle.hmr_types.specs.declared.words.PlanKind.TheVariants.{Load, Reload, Update}
use Rattle.core_model.specs.Names.{Name, same_name, has, at, names_of, collect, first_of, with_entry}
use Rattle.core_model.specs.Paths.{Reaches}
use Rattle.core_model.specs.View.{View, Entry, imports, imports_of, is_in, reached_in, dropped_of}
use Rattle.core_model.specs.Page.{Plan}
use Rattle.core_model.proofs.Naming.{both_true, cases_bool, has_cases, has_is, or_left, same_test, same_true, tail_has, true_same}
use Rattle.core_model.proofs.Tables.{named}
use Rattle.core_model.proofs.Views.{dropped_are, reached_is}
use Rattle.module_graph.specs.Entries.{lists_alike, put_entry}
use Rattle.module_graph.proofs.Marking.{put_at}
use Rattle.module_graph.proofs.Renewing.{alike}
use Rattle.page_plan.specs.Renewals.{AreAlike, AreThere, HasGrown, IsGrowth, adds_present, are_renewed, fetched_of, first_unlike, grow_once, is_at_end, is_first, is_growing, is_grown, is_renewed, is_update, put_row, rest_of, with_first}
use Rattle.page_plan.proofs.Placing.{alike_itself, fetched_alike, fetched_there}

all_pass : (test : Name → Bool) (names : List Name) → list_all test names ≡ true → (n : Name) → has names n ≡ true → test n ≡ true
all_pass test [] a n h = absurd (false≢true h)
all_pass test (x ∷ names) a n h =
    let both = both_true (test x) (list_all test names) a in
    by both.0 (all_pass test names both.1 n) (has_cases x names n h)
  where
    by : test x ≡ true → (has names n ≡ true → test n ≡ true) → (x ≡ n) ⊎ (has names n ≡ true) → test n ≡ true
    by p f (inl e) = ap test (sym e) ∙ p
    by p f (inr t) = f t

pub update_is : (kind : PlanKind) → is_update kind ≡ true → kind ≡ Update
update_is Load h = absurd (false≢true h)
update_is Reload h = absurd (false≢true h)
update_is Update h = refl

renewed_some : (old o : Option Entry) → is_renewed old o ≡ true → is_some o ≡ true
renewed_some old None h = h
renewed_some old (Some e) h = refl

renewed_there : (old o : Option Entry) → is_renewed old o ≡ true → is_some old ≡ true
renewed_there old None h = absurd (false≢true h)
renewed_there old (Some e) h = (alike old e.analysis h).there

renewed_imports : (old o : Option Entry) → is_renewed old o ≡ true → imports_of o ≡ imports_of old
renewed_imports old None h = absurd (false≢true h)
renewed_imports old (Some e) h = sym (alike old e.analysis h).imports

-- A list that has the names listed before, and more.

at_end : (names : List Name) → is_at_end names ≡ true → names ≡ []
at_end [] h = refl
at_end (n ∷ names) h = absurd (false≢true h)

first_cases : (before : List Name) (n m : Name) → is_first before n ≡ true → has before m ≡ true → (n ≡ m) ⊎ (has (rest_of before) m ≡ true)
first_cases [] n m s h = absurd (false≢true s)
first_cases (o ∷ before) n m s h = by (has_cases o before m h)
  where
    by : (o ≡ m) ⊎ (has before m ≡ true) → (n ≡ m) ⊎ (has before m ≡ true)
    by (inl e) = inl (sym (same_true o n s) ∙ e)
    by (inr t) = inr t

first_in : (before : List Name) (n m : Name) → is_first before n ≡ true → (n ≡ m) ⊎ (has (rest_of before) m ≡ true) → has before m ≡ true
first_in [] n m s h = absurd (false≢true s)
first_in (o ∷ before) n m s (inl e) = or_left (same_name o m) (has before m) (true_same o m (same_true o n s ∙ e))
first_in (o ∷ before) n m s (inr t) = tail_has o before m t

adds_kept : (view : View) (before names : List Name) → adds_present view before names ≡ true → (m : Name) → has before m ≡ true → has names m ≡ true
adds_kept view before [] h m t = ap (λ l. has l m) (sym (at_end before h)) ∙ t
adds_kept view before (n ∷ names) h m t = by (is_first before n) refl h (adds_kept view (rest_of before) names) (adds_kept view before names)
  where
    past : ((m : Name) → has (rest_of before) m ≡ true → has names m ≡ true) → (n ≡ m) ⊎ (has (rest_of before) m ≡ true) → has (n ∷ names) m ≡ true
    past f (inl e) = or_left (same_name n m) (has names m) (true_same n m e)
    past f (inr k) = tail_has n names m (f m k)

    by : (b : Bool) → is_first before n ≡ b → (if b then adds_present view (rest_of before) names else is_in view n && adds_present view before names) ≡ true
        → (adds_present view (rest_of before) names ≡ true → (m : Name) → has (rest_of before) m ≡ true → has names m ≡ true)
        → (adds_present view before names ≡ true → (m : Name) → has before m ≡ true → has names m ≡ true) → has (n ∷ names) m ≡ true
    by true s g rest all = past (rest g) (first_cases before n m s t)
    by false s g rest all = tail_has n names m (all (both_true (is_in view n) (adds_present view before names) g).1 m t)

adds_further : (view : View) (before names : List Name) → adds_present view before names ≡ true → (m : Name) → has names m ≡ true → (has before m ≡ true) ⊎ (is_in view m ≡ true)
adds_further view before [] h m t = absurd (false≢true t)
adds_further view before (n ∷ names) h m t = by (is_first before n) refl h (has_cases n names m t) (λ g. adds_further view (rest_of before) names g m) (λ g. adds_further view before names g m)
  where
    wider : is_first before n ≡ true → (has (rest_of before) m ≡ true) ⊎ (is_in view m ≡ true) → (has before m ≡ true) ⊎ (is_in view m ≡ true)
    wider s (inl k) = inl (first_in before n m s (inr k))
    wider s (inr k) = inr k

    by : (b : Bool) → is_first before n ≡ b → (if b then adds_present view (rest_of before) names else is_in view n && adds_present view before names) ≡ true → (n ≡ m) ⊎ (has names m ≡ true)
        → (adds_present view (rest_of before) names ≡ true → has names m ≡ true → (has (rest_of before) m ≡ true) ⊎ (is_in view m ≡ true))
        → (adds_present view before names ≡ true → has names m ≡ true → (has before m ≡ true) ⊎ (is_in view m ≡ true)) → (has before m ≡ true) ⊎ (is_in view m ≡ true)
    by true s g (inl e) rest all = inl (first_in before n m s (inl e))
    by true s g (inr k) rest all = wider s (rest g k)
    by false s g (inl e) rest all = inr (ap (is_in view) (sym e) ∙ (both_true (is_in view n) (adds_present view before names) g).0)
    by false s g (inr k) rest all = all (both_true (is_in view n) (adds_present view before names) g).1 k

-- Where nothing of a page is dropped each of its modules is reached.

pub all_reached : (roots : List Name) (view : View) → dropped_of view roots ≡ [] → (n : Name) → is_in view n ≡ true → Reaches (imports view) roots n
all_reached roots view whole n t = by (cases_bool (has (reached_in view roots) n))
  where
    by : (has (reached_in view roots) n ≡ true) ⊎ (has (reached_in view roots) n ≡ false) → Reaches (imports view) roots n
    by (inl e) = (reached_is view roots n).0 e
    by (inr e) = absurd (false≢true (ap (λ l. has l n) (sym whole)
        ∙ (has_is (dropped_of view roots) n).0 ((dropped_are view roots n).1 (record { listed = (has_is (names_of view) n).1 (sym (named view n) ∙ t); unreached = λ r. false≢true (sym e ∙ (reached_is view roots n).1 r) }))))

-- What the test by the lists of imports finds.

-- what is replaced is on the page, and was fetched
pub record IsFound (p : Plan) (view : View) : Type 0 where
  pub there : (n : Name) → has p.replaced n ≡ true → is_in view n ≡ true
  pub fetched : (n : Name) → has p.replaced n ≡ true → is_some (at p.staged n) ≡ true

pub growth_found : (roots : List Name) (p : Plan) (view : View) → IsGrowth roots p view → IsFound p view
growth_found roots p view g = record { there = λ n t. (g.each n t).there; fetched = λ n t. (g.each n t).fetched }

grown_some : (view : View) (old o : Option Entry) → is_grown view old o ≡ true → is_some o ≡ true
grown_some view old None h = h
grown_some view old (Some e) h = refl

grown_there : (view : View) (old o : Option Entry) → is_grown view old o ≡ true → is_some old ≡ true
grown_there view old None h = absurd (false≢true h)
grown_there view old (Some e) h = (both_true (is_some old) (adds_present view (imports_of old) e.analysis.imports) h).0

grown_adds : (view : View) (old o : Option Entry) → is_grown view old o ≡ true → adds_present view (imports_of old) (imports_of o) ≡ true
grown_adds view old None h = absurd (false≢true h)
grown_adds view old (Some e) h = (both_true (is_some old) (adds_present view (imports_of old) e.analysis.imports) h).1

renewed_grown : (roots : List Name) (view : View) (old o : Option Entry) → is_renewed old o ≡ true → HasGrown roots view old o
renewed_grown roots view old o h = record {
  there = renewed_there old o h;
  fetched = renewed_some old o h;
  kept = λ m t. ap (λ l. has l m) (renewed_imports old o h) ∙ t;
  further = λ m t. inl (ap (λ l. has l m) (sym (renewed_imports old o h)) ∙ t);
}

grown_reached : (roots : List Name) (view : View) (old o : Option Entry) → dropped_of view roots ≡ [] → is_grown view old o ≡ true → HasGrown roots view old o
grown_reached roots view old o whole h = record {
  there = grown_there view old o h;
  fetched = grown_some view old o h;
  kept = λ m t. adds_kept view (imports_of old) (imports_of o) (grown_adds view old o h) m t;
  further = λ m t. by m (adds_further view (imports_of old) (imports_of o) (grown_adds view old o h) m t);
}
  where
    by : (m : Name) → (has (imports_of old) m ≡ true) ⊎ (is_in view m ≡ true) → (has (imports_of old) m ≡ true) ⊎ Reaches (imports view) roots m
    by m (inl k) = inl k
    by m (inr k) = inr (all_reached roots view whole m k)

module _ (p : Plan) (view : View) where
  abbrev get : Name → Option Entry
  get n = at p.staged n

  each_of : (names : List Name) → grow_once p view names ≡ true → (n : Name) → has names n ≡ true → (is_renewed (at view n) (get n) ≡ true) ⊎ (is_grown view (at view n) (get n) ≡ true)
  each_of [] h n t = absurd (false≢true t)
  each_of (x ∷ names) h n t = by (is_renewed (at view x) (get x)) refl h (has_cases x names n t) (λ g. each_of names g n)
    where
      by : (b : Bool) → is_renewed (at view x) (get x) ≡ b → (if b then grow_once p view names else is_grown view (at view x) (get x) && are_renewed p view names) ≡ true → (x ≡ n) ⊎ (has names n ≡ true)
          → (grow_once p view names ≡ true → has names n ≡ true → (is_renewed (at view n) (get n) ≡ true) ⊎ (is_grown view (at view n) (get n) ≡ true))
          → (is_renewed (at view n) (get n) ≡ true) ⊎ (is_grown view (at view n) (get n) ≡ true)
      by true s g (inl e) rest = inl (ap (λ k. is_renewed (at view k) (get k)) (sym e) ∙ s)
      by true s g (inr k) rest = rest g k
      by false s g (inl e) rest = inr (ap (λ k. is_grown view (at view k) (get k)) (sym e) ∙ (both_true (is_grown view (at view x) (get x)) (are_renewed p view names) g).0)
      by false s g (inr k) rest = inl (all_pass (λ m. is_renewed (at view m) (get m)) names (both_true (is_grown view (at view x) (get x)) (are_renewed p view names) g).1 n k)

  -- an entry that lists what is fetched of its name
  put_renewed : (x : Name) (e : Entry) → get x ≡ Some e → (m : Name) → (x ≡ m) ⊎ (is_renewed (at view m) (get m) ≡ true) → is_renewed (at (put_entry x e view) m) (get m) ≡ true
  put_renewed x e is m h = ap (λ o. is_renewed o (get m)) (put_at x e view m) ∙ by (same_name x m) refl h
    where
      own : x ≡ m → is_renewed (Some e) (get m) ≡ true
      own i = ap (is_renewed (Some e)) (ap get (sym i) ∙ is) ∙ alike_itself e

      by : (b : Bool) → same_name x m ≡ b → (x ≡ m) ⊎ (is_renewed (at view m) (get m) ≡ true) → is_renewed (if b then Some e else at view m) (get m) ≡ true
      by true s k = own (same_true x m s)
      by false s (inl i) = absurd (false≢true (sym s ∙ true_same x m i))
      by false s (inr k) = k

  first_got : (f : Name × Entry → Bool) (names : List Name) (row : Name × Entry) → first_of (filter f (collect get names)) ≡ Some row → get row.0 ≡ Some row.1
  first_got f [] row e = absurd (false≢true (ap is_some e))
  first_got f (x ∷ names) row e = by (get x) refl (first_got f names row) e
    where
      pick : (v : Entry) (b : Bool) → get x ≡ Some v → (first_of (filter f (collect get names)) ≡ Some row → get row.0 ≡ Some row.1)
          → first_of (cond b ((x, v) ∷ filter f (collect get names)) (filter f (collect get names))) ≡ Some row → get row.0 ≡ Some row.1
      pick v true is rest i = let q : (x, v) ≡ row = same_Some (x, v) row i in ap (λ (r : Name × Entry). get r.0) (sym q) ∙ is ∙ ap (λ (r : Name × Entry). Some r.1) q
      pick v false is rest i = rest i

      by : (o : Option Entry) → get x ≡ o → (first_of (filter f (collect get names)) ≡ Some row → get row.0 ≡ Some row.1) → first_of (filter f (with_entry x o (collect get names))) ≡ Some row → get row.0 ≡ Some row.1
      by None is rest i = rest i
      by (Some v) is rest i = pick v (f (x, v)) is rest i

  stays : (o : Option (Name × Entry)) → ((row : Name × Entry) → o ≡ Some row → get row.0 ≡ Some row.1) → (m : Name) → is_renewed (at view m) (get m) ≡ true → is_renewed (at (put_row o view) m) (get m) ≡ true
  stays None f m h = h
  stays (Some row) f m h = put_renewed row.0 row.1 (f row refl) m (inr h)

  first_past : (x : Name) (o : Option Entry) (rows : List (Name × Entry)) → is_renewed (at view x) o ≡ true → first_unlike view (with_entry x o rows) ≡ first_unlike view rows
  first_past x None rows h = absurd (false≢true h)
  first_past x (Some e) rows h =
      let rest = filter (λ (r : Name × Entry). not (lists_alike (at view r.0) r.1.analysis)) rows in
      ap (λ b. first_of (cond (not b) ((x, e) ∷ rest) rest)) h

  first_here : (x : Name) (e : Entry) (rows : List (Name × Entry)) → is_renewed (at view x) (Some e) ≡ false → first_unlike view ((x, e) ∷ rows) ≡ Some (x, e)
  first_here x e rows h =
      let rest = filter (λ (r : Name × Entry). not (lists_alike (at view r.0) r.1.analysis)) rows in
      ap (λ b. first_of (cond (not b) ((x, e) ∷ rest) rest)) h

  -- once the first that lists others is put, each lists what is fetched of it
  grown_first : (x : Name) (o : Option Entry) (rows : List (Name × Entry)) → get x ≡ o → is_some o ≡ true → is_renewed (at view x) o ≡ false → (m : Name) → (x ≡ m) ⊎ (is_renewed (at view m) (get m) ≡ true)
      → is_renewed (at (with_first (with_entry x o rows) view) m) (get m) ≡ true
  grown_first x None rows is h s m c = absurd (false≢true h)
  grown_first x (Some e) rows is h s m c = ap (λ o. is_renewed (at (put_row o view) m) (get m)) (first_here x e rows s) ∙ put_renewed x e is m c

  pub once_put : (names : List Name) → grow_once p view names ≡ true → (m : Name) → has names m ≡ true → is_renewed (at (with_first (collect get names) view) m) (get m) ≡ true
  once_put [] h m t = absurd (false≢true t)
  once_put (x ∷ names) h m t = by (is_renewed (at view x) (get x)) refl h (has_cases x names m t) (λ g. once_put names g m)
    where
      rest : (x ≡ m) ⊎ (has names m ≡ true) → are_renewed p view names ≡ true → (x ≡ m) ⊎ (is_renewed (at view m) (get m) ≡ true)
      rest (inl e) a = inl e
      rest (inr k) a = inr (all_pass (λ n. is_renewed (at view n) (get n)) names a m k)

      by : (b : Bool) → is_renewed (at view x) (get x) ≡ b → (if b then grow_once p view names else is_grown view (at view x) (get x) && are_renewed p view names) ≡ true → (x ≡ m) ⊎ (has names m ≡ true)
          → (grow_once p view names ≡ true → has names m ≡ true → is_renewed (at (with_first (collect get names) view) m) (get m) ≡ true) → is_renewed (at (with_first (collect get (x ∷ names)) view) m) (get m) ≡ true
      by true s g (inl e) all = stays (first_unlike view (collect get (x ∷ names))) (first_got (λ r. not (lists_alike (at view r.0) r.1.analysis)) (x ∷ names)) m (ap (λ k. is_renewed (at view k) (get k)) (sym e) ∙ s)
      by true s g (inr k) all = ap (λ o. is_renewed (at (put_row o view) m) (get m)) (first_past x (get x) (collect get names) s) ∙ all g k
      by false s g c all =
          let q = both_true (is_grown view (at view x) (get x)) (are_renewed p view names) g in
          grown_first x (get x) (collect get names) refl (grown_some view (at view x) (get x) q.0) s m (rest c q.1)

module _ (p : Plan) (view : View) (h : is_growing p view ≡ true) where
  growing_each : (n : Name) → has p.replaced n ≡ true → (is_renewed (at view n) (at p.staged n) ≡ true) ⊎ (is_grown view (at view n) (at p.staged n) ≡ true)
  growing_each = each_of p view p.replaced (both_true (is_update p.kind) (grow_once p view p.replaced) h).1

  pub growing_found : IsFound p view
  growing_found = record { there = λ n t. there_by n (growing_each n t); fetched = λ n t. fetched_by n (growing_each n t) }
    where
      there_by : (n : Name) → (is_renewed (at view n) (at p.staged n) ≡ true) ⊎ (is_grown view (at view n) (at p.staged n) ≡ true) → is_in view n ≡ true
      there_by n (inl k) = renewed_there (at view n) (at p.staged n) k
      there_by n (inr k) = grown_there view (at view n) (at p.staged n) k

      fetched_by : (n : Name) → (is_renewed (at view n) (at p.staged n) ≡ true) ⊎ (is_grown view (at view n) (at p.staged n) ≡ true) → is_some (at p.staged n) ≡ true
      fetched_by n (inl k) = renewed_some (at view n) (at p.staged n) k
      fetched_by n (inr k) = grown_some view (at view n) (at p.staged n) k

  -- it is such an update, where nothing of the page is dropped
  pub growing_is : (roots : List Name) → dropped_of view roots ≡ [] → IsGrowth roots p view
  growing_is roots whole = record { update = (both_true (is_update p.kind) (grow_once p view p.replaced) h).0; each = λ n t. by n (growing_each n t) }
    where
      by : (n : Name) → (is_renewed (at view n) (at p.staged n) ≡ true) ⊎ (is_grown view (at view n) (at p.staged n) ≡ true) → HasGrown roots view (at view n) (at p.staged n)
      by n (inl k) = renewed_grown roots view (at view n) (at p.staged n) k
      by n (inr k) = grown_reached roots view (at view n) (at p.staged n) whole k

  -- its entries can be put in place
  pub rows_there : AreThere view (fetched_of p p.replaced)
  rows_there = fetched_there (λ n. at p.staged n) p.replaced view growing_found.there

  pub rows_alike : AreAlike (with_first (fetched_of p p.replaced) view) (fetched_of p p.replaced)
  rows_alike = fetched_alike (λ n. at p.staged n) p.replaced (with_first (fetched_of p p.replaced) view) (once_put p view p.replaced (both_true (is_update p.kind) (grow_once p view p.replaced) h).1)

-- One import more that is looked at: one that was listed before, or one of the page.

rest_past : (i : ℕ) (names : List Name) → rest_of (drop i names) ≡ drop (suc i) names
rest_past zero [] = refl
rest_past zero (n ∷ names) = refl
rest_past (suc i) [] = refl
rest_past (suc i) (n ∷ names) = rest_past i names

rest_drop : (i : ℕ) (names : List Name) → rest_of (drop i names) ≡ drop (i + 1) names
rest_drop i names = let next : suc i ≡ i + 1 = omega arith in rest_past i names ∙ ap (λ k. drop k names) next

adds_more : (view : View) (before names : List Name) (i j : ℕ) (x : Name) → i < length names → x ≡ get_or names i x
    → adds_present view (drop j before) (drop i names) ≡ (if is_first (drop j before) x then adds_present view (drop (j + 1) before) (drop (i + 1) names) else is_in view x && adds_present view (drop j before) (drop (i + 1) names))
adds_more view before names i j x h is =
    ap (adds_present view (drop j before)) (drop_more names i x h ∙ ap (λ k. k ∷ drop (i + 1) names) (sym is))
    ∙ ap (λ l. if is_first (drop j before) x then adds_present view l (drop (i + 1) names) else is_in view x && adds_present view (drop j before) (drop (i + 1) names)) (rest_drop j before)

module _ (view : View) (before names : List Name) (i j : ℕ) (x : Name) (h : i < length names) (is : x ≡ get_or names i x) (all : adds_present view (drop j before) (drop i names) ≡ adds_present view before names) where
  pub adds_kept_one : is_first (drop j before) x ≡ true → adds_present view (drop (j + 1) before) (drop (i + 1) names) ≡ adds_present view before names
  adds_kept_one f = sym (adds_more view before names i j x h is ∙ ap (λ t. if t then adds_present view (drop (j + 1) before) (drop (i + 1) names) else is_in view x && adds_present view (drop j before) (drop (i + 1) names)) f) ∙ all

  adds_other : is_first (drop j before) x ≡ false → (is_in view x && adds_present view (drop j before) (drop (i + 1) names)) ≡ adds_present view before names
  adds_other f = sym (adds_more view before names i j x h is ∙ ap (λ t. if t then adds_present view (drop (j + 1) before) (drop (i + 1) names) else is_in view x && adds_present view (drop j before) (drop (i + 1) names)) f) ∙ all

  pub adds_one : is_first (drop j before) x ≡ false → is_in view x ≡ true → adds_present view (drop j before) (drop (i + 1) names) ≡ adds_present view before names
  adds_one f t = sym (ap (λ b. b && adds_present view (drop j before) (drop (i + 1) names)) t) ∙ adds_other f

all_dropped : (before : List Name) (j : ℕ) → j ≤ length before → is_at_end (drop j before) ≡ true → j ≡ length before
all_dropped [] zero h t = refl
all_dropped [] (suc j) h t = absurd (omega (arith, h))
all_dropped (n ∷ before) zero h t = absurd (false≢true t)
all_dropped (n ∷ before) (suc j) h t = ap suc (all_dropped before j (omega (arith, h)) t)

pub end_is : (before : List Name) (j : ℕ) → j ≤ length before → is_at_end (drop j before) ≡ (j == length before)
end_is before j h = same_test (is_at_end (drop j before)) (j == length before) (λ t. eq-eqb j (length before) (all_dropped before j h t))
    (λ e. ap (λ k. is_at_end (drop k before)) (eqb-true j (length before) e) ∙ ap is_at_end (drop_all (length before) before (omega arith)))

pub within_first : (before : List Name) (j : ℕ) (x : Name) → is_first (drop j before) x ≡ true → j + 1 ≤ length before
within_first [] zero x h = absurd (false≢true h)
within_first [] (suc j) x h = absurd (false≢true h)
within_first (n ∷ before) zero x h = omega arith
within_first (n ∷ before) (suc j) x h = let k = within_first before j x h in omega (arith, k)

-- a name that a look-up found is in the view
pub there_found : {X : Type 0} (view : View) (n : Name) (f : X → Entry) (o : Option X) (none : Bool) → option_map f o ≡ at view n → is_some o ≡ not none → none ≡ false → is_in view n ≡ true
there_found view n f None none e s h = absurd (false≢true (s ∙ ap not h))
there_found view n f (Some x) none e s h = ap is_some (sym e)

pub adds_end : (view : View) (before names : List Name) (i j : ℕ) → length names ≤ i → i ≤ length names → j ≤ length before → adds_present view (drop j before) (drop i names) ≡ adds_present view before names → (j == length before) ≡ adds_present view before names
adds_end view before names i j past h within all =
    sym (end_is before j within) ∙ ap (adds_present view (drop j before)) (sym (ap (λ k. drop k names) (omega (arith, past, h)) ∙ drop_all (length names) names (omega arith))) ∙ all
