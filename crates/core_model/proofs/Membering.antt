-- What is missing, unlinked and unfetched, and that these lists rise; and so do the pairs.
use Rattle.std.proofs.Common.{◌≡◌, ◌↔◌, ◌⊎◌, inl, inr, ℕ, Bool, true, false, List, [], ◌∷◌, map, refl, ap, sym, ◌∙◌, Contains}
use Rattle.std.specs.Prelude.{filter, cond, not, Option, Some, None, is_some}
use Prim.{⊥}
use Rattle.std.proofs.Math.Path.{subst}
use Rattle.std.proofs.lemmas.Bool.{false≢true}
use Rattle.core_model.specs.Names.{Name, same_name, has, at, names_of, sorted, with_entry, collect}
use Rattle.core_model.specs.Rounds.{reached_of}
use Rattle.core_model.specs.Sources.{Text, Serving}
use Rattle.core_model.specs.FreshLoad.{Served, imports, imported_by_served, reached_by, version_in, fresh_table, missing_of, linked_from, unlinked_edge, unlinked_module, unlinked_of}
use Rattle.core_model.specs.View.{View}
use Rattle.core_model.specs.Spread.{is_pair, pairs_with, pairs_of}
use Rattle.core_model.specs.Page.{Plan, entry_at, met_of, unfetched_of}
use Rattle.core_model.specs.Ordered.{IsBelow, IsPairBelow, IsTripleBelow, Rises}
use Rattle.core_model.specs.Members.{IsLoaded, IsMissing, IsUnlinked, IsUnfetched}
use Rattle.core_model.proofs.Naming.{same_true, true_same, has_is, has_cases, head_has, tail_has, not_true, not_from, filtered_from, filtered_in, sorted_has}
use Rattle.core_model.proofs.Rising.{sorted_rises}
use Rattle.core_model.proofs.Loading.{reached_is}
use Rattle.core_model.proofs.Planning.{met_is}
use Rattle.core_model.proofs.Listing.{first_in, later_in, none_in, in_cases, made, makes, of_all, in_all, names_rise, kept_rise, made_rise, all_rise}

none_is : {X : Type 0} (o : Option X) → is_some o ≡ false → o ≡ None
none_is None h = refl
none_is (Some x) h = absurd (false≢true (sym h))

none_not : {X : Type 0} (o : Option X) → o ≡ None → not (is_some o) ≡ true
none_not o e = ap (λ k. not (is_some k)) e

-- Missing and unfetched.

pub missing_is : (served : Served) (roots : List Name) (n : Name) → Contains (missing_of served roots) n ↔ IsMissing served roots n
missing_is served roots n = (
  (λ c. let f = filtered_from (λ k. not (is_some (at served k))) (reached_by served roots) n ((has_is (missing_of served roots) n).0 c) in
      record { reached = (reached_is served roots n).0 f.1; unserved = none_is (at served n) (not_true (is_some (at served n)) f.0) }),
  (λ m. (has_is (missing_of served roots) n).1 (filtered_in (λ k. not (is_some (at served k))) (reached_by served roots) n (none_not (at served n) m.unserved) ((reached_is served roots n).1 m.reached))),
)

pub missing_rise : (served : Served) (roots : List Name) → Rises IsBelow (missing_of served roots)
missing_rise served roots = kept_rise (λ k. not (is_some (at served k))) (reached_by served roots) (names_rise (reached_by served roots) (sorted_rises (reached_of (imports served) (imported_by_served served) roots)))

pub unfetched_is : (roots : List Name) (p : Plan) (view : View) (n : Name) → Contains (unfetched_of roots p view) n ↔ IsUnfetched roots p view n
unfetched_is roots p view n = (
  (λ c. let f = filtered_from (λ k. not (is_some (entry_at p view k))) (met_of roots p view) n (sym (sorted_has _ n) ∙ (has_is (unfetched_of roots p view) n).0 c) in
      record { met = (met_is roots p view n).0 f.1; without = none_is (entry_at p view n) (not_true (is_some (entry_at p view n)) f.0) }),
  (λ m. (has_is (unfetched_of roots p view) n).1 (sorted_has _ n ∙ filtered_in (λ k. not (is_some (entry_at p view k))) (met_of roots p view) n (none_not (entry_at p view n) m.without) ((met_is roots p view n).1 m.met))),
)

pub unfetched_rise : (roots : List Name) (p : Plan) (view : View) → Rises IsBelow (unfetched_of roots p view)
unfetched_rise roots p view = names_rise (unfetched_of roots p view) (sorted_rises (filter (λ n. not (is_some (entry_at p view n))) (met_of roots p view)))

-- Pairs.

sorted_rise : (names : List Name) → Rises IsBelow (sorted names)
sorted_rise names = names_rise (sorted names) (sorted_rises names)

module _ (view : View) (replaced forced : List Name) where
  abbrev test : Name → Name → Bool
  test = is_pair view replaced forced

  abbrev listed : List Name
  listed = sorted (names_of view)

  of_one : (m : Name) → Rises IsPairBelow (pairs_with test listed m)
  of_one m = made_rise IsBelow IsPairBelow (λ n. (m, n)) (λ a b h. inr (refl, h)) (filter (test m) listed) (kept_rise (test m) listed (sorted_rise (names_of view)))

  of_two : (m k : Name) (p q : Name × Name) → IsBelow m k → Contains (pairs_with test listed m) p → Contains (pairs_with test listed k) q → IsPairBelow p q
  of_two m k p q h c d =
      let a = made (λ n. (m, n)) (filter (test m) listed) p c in
      let b = made (λ n. (k, n)) (filter (test k) listed) q d in
      inl (subst (λ x. IsBelow x q.0) (ap (λ (x : Name × Name). x.0) a.is) (subst (IsBelow m) (ap (λ (x : Name × Name). x.0) b.is) h))

  pub pairs_rise : Rises IsPairBelow (pairs_of view replaced forced)
  pairs_rise = all_rise IsBelow IsPairBelow (pairs_with test listed) of_one of_two listed (sorted_rise (names_of view))

-- Unlinked imports.

linked_all : (links : List (Name × Name)) (m x : Name) → Contains links (m, x) → has (linked_from links m) x ≡ true
linked_all [] m x c = none_in (m, x) c
linked_all (row ∷ links) m x c = by (λ d. linked_all links m x d) (in_cases row links (m, x) c)
  where
    rest : List (Name × Name)
    rest = filter (λ link. same_name link.0 m) links

    by_test : (b : Bool) → has (map (λ (link : Name × Name). link.1) rest) x ≡ true → has (map (λ (link : Name × Name). link.1) (cond b (row ∷ rest) rest)) x ≡ true
    by_test true h = tail_has row.1 (linked_from links m) x h
    by_test false h = h

    by : (Contains links (m, x) → has (linked_from links m) x ≡ true) → (row ≡ (m, x)) ⊎ Contains links (m, x) → has (linked_from (row ∷ links) m) x ≡ true
    by f (inl e) = ap (λ b. has (map (λ (link : Name × Name). link.1) (cond b (row ∷ rest) rest)) x) (true_same row.0 m (ap (λ (r : Name × Name). r.0) e))
        ∙ ap (λ k. has (k ∷ linked_from links m) x) (ap (λ (r : Name × Name). r.1) e) ∙ head_has x (linked_from links m)
    by f (inr d) = by_test (same_name row.0 m) (f d)

linked_only : (links : List (Name × Name)) (m x : Name) → has (linked_from links m) x ≡ true → Contains links (m, x)
linked_only [] m x h = absurd (false≢true h)
linked_only (row ∷ links) m x h = by_test (λ k. linked_only links m x k) (same_name row.0 m) (same_true row.0 m) h
  where
    rest : List (Name × Name)
    rest = filter (λ link. same_name link.0 m) links

    by_name : (has (linked_from links m) x ≡ true → Contains links (m, x)) → row.0 ≡ m → (row.1 ≡ x) ⊎ (has (linked_from links m) x ≡ true) → Contains (row ∷ links) (m, x)
    by_name g e (inl f) = subst (Contains (row ∷ links)) (ap (λ k. (k, row.1)) e ∙ ap (λ k. (m, k)) f) (first_in row links)
    by_name g e (inr k) = later_in row links (m, x) (g k)

    by_test : (has (linked_from links m) x ≡ true → Contains links (m, x)) → (b : Bool) → (b ≡ true → row.0 ≡ m) → has (map (λ (link : Name × Name). link.1) (cond b (row ∷ rest) rest)) x ≡ true → Contains (row ∷ links) (m, x)
    by_test g true e k = by_name g (e refl) (has_cases row.1 (linked_from links m) x k)
    by_test g false e k = later_in row links (m, x) (g k)

abbrev Triple : Type 0
Triple = Name × Name × Name

-- the unlinked imports of one module from one dependency
record IsOfEdge (links : List (Name × Name)) (o : Option Serving) (m x : Name) : Type 0 where
  dependency : Serving
  served : o ≡ Some dependency
  linked : Contains links (m, x)
  unexported : Contains dependency.analysis.exports x → ⊥

module _ (links : List (Name × Name)) (n m : Name) where
  abbrev missed : Serving → List Name
  missed s = sorted (filter (λ x. not (has s.analysis.exports x)) (linked_from links m))

  missed_is : (s : Serving) (x : Name) → Contains (missed s) x → Contains links (m, x) × (Contains s.analysis.exports x → ⊥)
  missed_is s x c =
      let f = filtered_from (λ k. not (has s.analysis.exports k)) (linked_from links m) x (sym (sorted_has _ x) ∙ (has_is (missed s) x).0 c) in
      (linked_only links m x f.1, λ e. false≢true (sym (not_true (has s.analysis.exports x) f.0) ∙ (has_is s.analysis.exports x).0 e))

  is_missed : (s : Serving) (x : Name) → Contains links (m, x) → (Contains s.analysis.exports x → ⊥) → Contains (missed s) x
  is_missed s x c f = (has_is (missed s) x).1 (sorted_has _ x ∙ filtered_in (λ k. not (has s.analysis.exports k)) (linked_from links m) x (not_from (has s.analysis.exports x) (λ h. f ((has_is s.analysis.exports x).1 h))) (linked_all links m x c))

  edge_only : (o : Option Serving) (t : Triple) → Contains (unlinked_edge links o n m) t → (t.0 ≡ n) × (t.1 ≡ m) × IsOfEdge links o m t.2
  edge_only None t c = none_in t c
  edge_only (Some s) t c =
      let r = made (λ x. (n, m, x)) (missed s) t c in
      let e : r.from ≡ t.2 = ap (λ (k : Triple). k.2) r.is in
      let f = missed_is s t.2 (subst (Contains (missed s)) e r.there) in
      (sym (ap (λ (k : Triple). k.0) r.is), sym (ap (λ (k : Triple). k.1) r.is), record { dependency = s; served = refl; linked = f.0; unexported = f.1 })

  edge_all : (o : Option Serving) (x : Name) → IsOfEdge links o m x → Contains (unlinked_edge links o n m) (n, m, x)
  edge_all o x h = subst (λ k. Contains (unlinked_edge links k n m) (n, m, x)) (sym h.served) (makes (λ k. (n, m, k)) (missed h.dependency) x (is_missed h.dependency x h.linked h.unexported))

  edge_rise : (o : Option Serving) → Rises IsTripleBelow (unlinked_edge links o n m)
  edge_rise None = tt
  edge_rise (Some s) = made_rise IsBelow IsTripleBelow (λ x. (n, m, x)) (λ a b h. inr (refl, inr (refl, h))) (missed s) (sorted_rise (filter (λ x. not (has s.analysis.exports x)) (linked_from links m)))

-- the unlinked imports of one module
record IsOfModule (links : Name → Text → List (Name × Name)) (served : Served) (n : Name) (o : Option Serving) (m x : Name) : Type 0 where
  importer : Serving
  is : o ≡ Some importer
  imported : Contains importer.analysis.imports m
  edge : IsOfEdge (links n importer.text) (at served m) m x

module _ (links : Name → Text → List (Name × Name)) (served : Served) (n : Name) where
  abbrev edges : Serving → Name → List Triple
  edges s m = unlinked_edge (links n s.text) (at served m) n m

  module_only : (o : Option Serving) (t : Triple) → Contains (unlinked_module links served n o) t → (t.0 ≡ n) × IsOfModule links served n o t.1 t.2
  module_only None t c = none_in t c
  module_only (Some s) t c =
      let r = of_all (edges s) (sorted s.analysis.imports) t c in
      let e = edge_only (links n s.text) n r.from (at served r.from) t r.is in
      let there : has s.analysis.imports t.1 ≡ true = ap (has s.analysis.imports) e.1 ∙ sym (sorted_has s.analysis.imports r.from) ∙ (has_is (sorted s.analysis.imports) r.from).0 r.there in
      (e.0, record { importer = s; is = refl; imported = (has_is s.analysis.imports t.1).1 there; edge = subst (λ m. IsOfEdge (links n s.text) (at served m) m t.2) (sym e.1) e.2 })

  module_all : (o : Option Serving) (m x : Name) → IsOfModule links served n o m x → Contains (unlinked_module links served n o) (n, m, x)
  module_all o m x h = subst (λ k. Contains (unlinked_module links served n k) (n, m, x)) (sym h.is)
      (in_all (edges h.importer) (sorted h.importer.analysis.imports) m (n, m, x) ((has_is (sorted h.importer.analysis.imports) m).1 (sorted_has h.importer.analysis.imports m ∙ (has_is h.importer.analysis.imports m).0 h.imported)) (edge_all (links n h.importer.text) n m (at served m) x h.edge))

  across : (s : Serving) (a b : Name) (t u : Triple) → IsBelow a b → Contains (edges s a) t → Contains (edges s b) u → IsTripleBelow t u
  across s a b t u h c d =
      let e = edge_only (links n s.text) n a (at served a) t c in
      let f = edge_only (links n s.text) n b (at served b) u d in
      inr (e.0 ∙ sym f.0, inl (subst (λ k. IsBelow k u.1) (sym e.1) (subst (IsBelow a) (sym f.1) h)))

  module_rise : (o : Option Serving) → Rises IsTripleBelow (unlinked_module links served n o)
  module_rise None = tt
  module_rise (Some s) = all_rise IsBelow IsTripleBelow (edges s) (λ m. edge_rise (links n s.text) n m (at served m)) (across s) (sorted s.analysis.imports) (sorted_rise s.analysis.imports)

module _ (links : Name → Text → List (Name × Name)) (served : Served) (roots : List Name) where
  abbrev modules : Name → List Triple
  modules n = unlinked_module links served n (at served n)

  unlinked_only : (n m x : Name) → Contains (unlinked_of links served roots) (n, m, x) → IsUnlinked links served roots n m x
  unlinked_only n m x c =
      let r = of_all modules (reached_by served roots) (n, m, x) c in
      let e = module_only links served r.from (at served r.from) (n, m, x) r.is in
      let h : IsOfModule links served n (at served n) m x = subst (λ k. IsOfModule links served k (at served k) m x) (sym e.0) e.1 in
      record {
        importer = h.importer;
        dependency = h.edge.dependency;
        reached = (reached_is served roots n).0 (ap (has (reached_by served roots)) e.0 ∙ (has_is (reached_by served roots) r.from).0 r.there);
        of_importer = h.is;
        imported = h.imported;
        linked = h.edge.linked;
        of_dependency = h.edge.served;
        unexported = h.edge.unexported;
      }

  unlinked_all : (n m x : Name) → IsUnlinked links served roots n m x → Contains (unlinked_of links served roots) (n, m, x)
  unlinked_all n m x u = in_all modules (reached_by served roots) n (n, m, x) ((has_is (reached_by served roots) n).1 ((reached_is served roots n).1 u.reached))
      (module_all links served n (at served n) m x (record { importer = u.importer; is = u.of_importer; imported = u.imported; edge = record { dependency = u.dependency; served = u.of_dependency; linked = u.linked; unexported = u.unexported } }))

  pub unlinked_is : (n m x : Name) → Contains (unlinked_of links served roots) (n, m, x) ↔ IsUnlinked links served roots n m x
  unlinked_is n m x = (unlinked_only n m x, unlinked_all n m x)

  apart : (a b : Name) (t u : Triple) → IsBelow a b → Contains (modules a) t → Contains (modules b) u → IsTripleBelow t u
  apart a b t u h c d = inl (subst (λ k. IsBelow k u.0) (sym (module_only links served a (at served a) t c).0) (subst (IsBelow a) (sym (module_only links served b (at served b) u d).0) h))

  pub unlinked_rise : Rises IsTripleBelow (unlinked_of links served roots)
  unlinked_rise = all_rise IsBelow IsTripleBelow modules (λ n. module_rise links served n (at served n)) apart (reached_by served roots) (names_rise (reached_by served roots) (sorted_rises (reached_of (imports served) (imported_by_served served) roots)))

-- The fresh load's table.

module _ {X : Type 0} (get : Name → Option X) where
  abbrev IsGot : List Name → Name → X → Type 0
  IsGot names n x = (has names n ≡ true) × (get n ≡ Some x)

  got_first : (m : Name) (names : List Name) (n : Name) (x y : X) → get m ≡ Some y → (IsGot names n x → IsGot (m ∷ names) n x) → (◌≡◌ {A = Name × X} (m, y) (n, x)) ⊎ IsGot names n x → IsGot (m ∷ names) n x
  got_first m names n x y e f (inl q) =
      let k : m ≡ n = ap (λ (r : Name × X). r.0) q in
      (ap (λ j. has (j ∷ names) n) k ∙ head_has n names, ap get (sym k) ∙ e ∙ ap (λ (r : Name × X). Some r.1) q)
  got_first m names n x y e f (inr g) = f g

  got_by : (m : Name) (names : List Name) (n : Name) (x : X) (o : Option X) → get m ≡ o → (Contains (collect get names) (n, x) → IsGot names n x) → Contains (with_entry m o (collect get names)) (n, x) → IsGot (m ∷ names) n x
  got_by m names n x None e f c = let g = f c in (tail_has m names n g.0, g.1)
  got_by m names n x (Some y) e f c = got_first m names n x y e (λ g. (tail_has m names n g.0, g.1)) (by (in_cases (m, y) (collect get names) (n, x) c))
    where
      by : (◌≡◌ {A = Name × X} (m, y) (n, x)) ⊎ Contains (collect get names) (n, x) → (◌≡◌ {A = Name × X} (m, y) (n, x)) ⊎ IsGot names n x
      by (inl q) = inl q
      by (inr d) = inr (f d)

  got : (names : List Name) (n : Name) (x : X) → Contains (collect get names) (n, x) → IsGot names n x
  got [] n x c = none_in (n, x) c
  got (m ∷ names) n x c = got_by m names n x (get m) refl (got names n x) c

  entry_kept : (m : Name) (o : Option X) (rows : List (Name × X)) (row : Name × X) → Contains rows row → Contains (with_entry m o rows) row
  entry_kept m None rows row c = c
  entry_kept m (Some y) rows row c = later_in (m, y) rows row c

  gets_by : (m : Name) (names : List Name) (n : Name) (x : X) → get n ≡ Some x → (has names n ≡ true → Contains (collect get names) (n, x)) → (m ≡ n) ⊎ (has names n ≡ true) → Contains (collect get (m ∷ names)) (n, x)
  gets_by m names n x e f (inl q) = subst (λ k. Contains (with_entry k (get k) (collect get names)) (n, x)) (sym q) (subst (λ o. Contains (with_entry n o (collect get names)) (n, x)) (sym e) (first_in (n, x) (collect get names)))
  gets_by m names n x e f (inr h) = entry_kept m (get m) (collect get names) (n, x) (f h)

  gets : (names : List Name) (n : Name) (x : X) → get n ≡ Some x → has names n ≡ true → Contains (collect get names) (n, x)
  gets [] n x e h = absurd (false≢true h)
  gets (m ∷ names) n x e h = gets_by m names n x e (gets names n x e) (has_cases m names n h)

pub loaded_is : (served : Served) (roots : List Name) (n : Name) (v : ℕ) → Contains (fresh_table served roots) (n, v) ↔ IsLoaded served roots n v
loaded_is served roots n v = (
  (λ c. let g = got (λ k. version_in (at served k)) (reached_by served roots) n v c in record { reached = (reached_is served roots n).0 g.0; version = g.1 }),
  (λ h. gets (λ k. version_in (at served k)) (reached_by served roots) n v h.version ((reached_is served roots n).1 h.reached)),
)
