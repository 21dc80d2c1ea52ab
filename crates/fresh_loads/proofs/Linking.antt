-- Links and exports by look-up tell which imports no export answers.
use Rattle.std.proofs.Common.{◌≡◌, ℕ, ◌+◌, ◌<◌, Bool, true, false, List, [], ◌∷◌, ◌++◌, length, take, get_or, refl, ap, sym, ◌∙◌, Contains}
use Rattle.std.specs.Prelude.{◌||◌, not, cond, map, filter, flat_map, Option, Some, None, if◌then◌else◌}
use Rattle.std.specs.BTreeMap.{is_at}
use Rattle.std.specs.Map.{lookup}
use Rattle.std.specs.Ordering.{nat_cmp}
use Rattle.std.specs.Cmp.Lexicographic.{slice_cmp, nat_list_eq_equiv, texts_ties}
use Rattle.std.proofs.Math.Path.{subst}
use Rattle.std.proofs.lemmas.Bool.{false≢true}
use Rattle.std.proofs.lemmas.List.{append-nil, map-append, take_more}
use Rattle.std.proofs.lemmas.List.Elements.{Contains-get_or, filter-append}
use Rattle.core_model.specs.Names.{Name, same_name, has, at, sorted}
use Rattle.core_model.specs.Sources.{Serving}
use Rattle.core_model.specs.FreshLoad.{Served, imports, imports_in, reached_by, linked_from, unlinked_edge, unlinked_module}
use Rattle.core_model.proofs.Naming.{has_is, same_true, head_has, tail_has, sorted_has}
use Rattle.core_model.proofs.Loading.{reached_is}
use Rattle.core_model.proofs.Reaching.{reaches_on}
use Rattle.import_links.specs.Links.{links}
use Rattle.fresh_loads.specs.Searching.{AreMarks, AreExports, AreClosed, HaveExports, IsExports, IsLookedAt, kept_or_none, unlinked_in, unlinked_by}
use Rattle.module_graph.proofs.Sets.{has_take_more}
use Rattle.version_map.proofs.Alike.{same_filtered}

-- maps by name

key_is : (q k : Name) → is_at (slice_cmp nat_cmp q) k ≡ same_name k q
key_is q k = sym (texts_ties q k) ∙ nat_list_eq_equiv.symm q k

module _ {X : Type 0} where
  found_step : (b c : Bool) (v : X) (x y : Option X) → c ≡ b → x ≡ y → (if b then Some v else x) ≡ cond c (Some v) y
  found_step true c v x y e f = rw e refl
  found_step false c v x y e f = rw e f

  -- the map finds the first entry of a name
  pub found : (rows : List (Name × X)) (q : Name) → at rows q ≡ lookup (is_at (slice_cmp nat_cmp q)) rows
  found [] q = refl
  found (row ∷ rows) q = found_step (same_name row.0 q) (is_at (slice_cmp nat_cmp q) row.0) row.1 (at rows q) (lookup (is_at (slice_cmp nat_cmp q)) rows) (key_is q row.0) (found rows q)

  changed_step : (b c : Bool) (w x y z : Option X) → c ≡ b → x ≡ cond c w y → z ≡ y → x ≡ (if b then w else z)
  changed_step true c w x y z e f g = f ∙ ap (λ t. cond t w y) e
  changed_step false c w x y z e f g = f ∙ ap (λ t. cond t w y) e ∙ sym g

  -- a change of one entry of the map
  pub changed : (n : Name) (w : Option X) (old new : List (Name × X)) → ((m : Name) → lookup (is_at (slice_cmp nat_cmp m)) new ≡ cond (is_at (slice_cmp nat_cmp n) m) w (lookup (is_at (slice_cmp nat_cmp m)) old)) → (m : Name) → at new m ≡ (if same_name n m then w else at old m)
  changed n w old new u m = changed_step (same_name n m) (is_at (slice_cmp nat_cmp n) m) w (at new m) (lookup (is_at (slice_cmp nat_cmp m)) old) (at old m) (sym (texts_ties n m)) (found new m ∙ u m) (found old m)

-- the sets of exports

unserved_step : (same done : Bool) (s : Option Serving) (o : Option (List Name)) → (same ≡ true → s ≡ None) → IsLookedAt done s o → IsLookedAt (same || done) s o
unserved_step true true s o f h = h
unserved_step true false None None f h = tt
unserved_step true false None (Some set) f h = absurd (cc)
unserved_step true false (Some x) o f h = absurd (let e = f refl in cc)
unserved_step false done s o f h = h

-- a module that isn't served has no set
pub unserved_too : (served : Served) (n : Name) (done : List Name) (sets : List (Name × List Name)) → at served n ≡ None → AreExports served done sets → AreExports served (n ∷ done) sets
unserved_too served n done sets e h m = unserved_step (same_name n m) (has done m) (at served m) (at sets m) (λ q. ap (at served) (sym (same_true n m q)) ∙ e) (h m)

served_step : (same done : Bool) (s : Option Serving) (o p : Option (List Name)) (set : List Name) (x : Serving) → (same ≡ true → s ≡ Some x) → AreMarks set x.analysis.exports → p ≡ (if same then Some set else o) → IsLookedAt done s o → IsLookedAt (same || done) s p
served_step true done s o p set x f a e h = subst (IsExports s) (sym e) (subst (λ t. IsExports t (Some set)) (sym (f refl)) a)
served_step false done s o p set x f a e h = subst (IsLookedAt done s) (sym e) h

-- a module that is served has its set
pub served_too : (served : Served) (n : Name) (done : List Name) (sets new : List (Name × List Name)) (set : List Name) (x : Serving) → at served n ≡ Some x → AreMarks set x.analysis.exports → ((m : Name) → at new m ≡ (if same_name n m then Some set else at sets m)) → AreExports served done sets → AreExports served (n ∷ done) new
served_too served n done sets new set x e a f h m = served_step (same_name n m) (has done m) (at served m) (at sets m) (at new m) set x (λ q. ap (at served) (sym (same_true n m q)) ∙ e) a (f m) (h m)

-- one module more of a list
pub one_module_more : (served : Served) (names : List Name) (i : ℕ) (d : Name) → i < length names → (new : List (Name × List Name)) (n : Name) → n ≡ get_or names i d → AreExports served (n ∷ take i names) new → AreExports served (take (i + 1) names) new
one_module_more served names i d h new n e a m = subst (λ b. IsLookedAt b (at served m) (at new m)) (ap (λ k. same_name k m || has (take i names) m) e ∙ sym (has_take_more names i d m h)) (a m)

looked_step : (b : Bool) (s : Option Serving) (o : Option (List Name)) → b ≡ true → IsLookedAt b s o → IsExports s o
looked_step true s o e h = h
looked_step false s o e h = absurd (false≢true e)

-- what a module imports has its sets, where the list has what its modules import
pub exports_there : (served : Served) (names : List Name) (sets : List (Name × List Name)) (n : Name) → AreClosed served names → AreExports served names sets → has names n ≡ true → HaveExports served (imports_in (at served n)) sets
exports_there served names sets n c a h m e = looked_step (has names m) (at served m) (at sets m) (c n m h e) (a m)

-- a name of the list
pub item_has : (names : List Name) (i : ℕ) (d n : Name) → i < length names → n ≡ get_or names i d → has names n ≡ true
item_has names i d n h e = (has_is names n).0 (subst (Contains names) (sym e) (Contains-get_or names i d h))

-- what is reached is closed
pub reached_closed : (served : Served) (roots names : List Name) → names ≡ reached_by served roots → AreClosed served names
reached_closed served roots names e = subst (AreClosed served) (sym e) (λ n m h q. (reached_is served roots m).1 (reaches_on (imports served) roots n m ((reached_is served roots n).0 h) q))

-- the imports of an edge

edge_step : (links : List (Name × Name)) (names : List Name) (n m : Name) (s : Option Serving) (set : Option (List Name)) → names ≡ linked_from links m → IsExports s set → unlinked_in set names n m ≡ unlinked_edge links s n m
edge_step links names n m None None e h = refl
edge_step links names n m None (Some set) e h = absurd h
edge_step links names n m (Some s) None e h = absurd h
edge_step links names n m (Some s) (Some set) e h = ap (λ l. map (λ x. (n, m, x)) (sorted l)) (ap (filter (λ x. not (has set x))) e ∙ same_filtered (λ x. not (has set x)) (λ x. not (has s.analysis.exports x)) (linked_from links m) (λ x. ap not (h x)))

module _ (links : List (Name × Name)) (served : Served) (sets linked : List (Name × List Name)) (n : Name) (l : (m : Name) → kept_or_none (at linked m) ≡ linked_from links m) where
  edges : (names : List Name) → HaveExports served names sets → flat_map (unlinked_by sets linked n) names ≡ flat_map (λ m. unlinked_edge links (at served m) n m) names
  edges [] h = refl
  edges (m ∷ names) h =
      ap (λ k. k ++ flat_map (unlinked_by sets linked n) names) (edge_step links (kept_or_none (at linked m)) n m (at served m) (at sets m) (l m) (h m (head_has m names)))
      ∙ ap (λ k. unlinked_edge links (at served m) n m ++ k) (edges names (λ k e. h k (tail_has m names k e)))

  -- the imports of a module, edge by edge
  pub edges_are : (dependencies imported : List Name) → dependencies ≡ sorted imported → HaveExports served imported sets → flat_map (unlinked_by sets linked n) dependencies ≡ flat_map (λ m. unlinked_edge links (at served m) n m) (sorted imported)
  edges_are dependencies imported e h = ap (flat_map (unlinked_by sets linked n)) e ∙ edges (sorted imported) (λ m q. h m (sym (sorted_has imported m) ∙ q))

-- an edge was looked up
pub edge_found : (sets linked : List (Name × List Name)) (n m : Name) (set names left taken : List Name) → Some set ≡ at sets m → taken ≡ kept_or_none (at linked m) → left ≡ sorted (filter (λ x. not (has set x)) taken) → names ≡ left → map (λ x. (n, m, x)) names ≡ unlinked_by sets linked n m
edge_found sets linked n m set names left taken e f g h = ap (map (λ x. (n, m, x))) (h ∙ g ∙ ap (λ l. sorted (filter (λ x. not (has set x)) l)) f) ∙ ap (λ o. unlinked_in o (kept_or_none (at linked m)) n m) e

-- the edges of a module were looked up
pub module_found : (served : Served) (n : Name) (x : Serving) (sets : List (Name × List Name)) (ls : List (Name × Name)) (imported : List Name) (old new : List (Name × Name × Name)) → Some x ≡ at served n → ls ≡ links n x.text → imported ≡ x.analysis.imports → HaveExports served (imports_in (at served n)) sets
    → ((t : Served) → HaveExports t imported sets → new ≡ old ++ flat_map (λ m. unlinked_edge ls (at t m) n m) (sorted imported)) → new ≡ old ++ unlinked_module links served n (at served n)
module_found served n x sets ls imported old new e f g h k =
    let there : HaveExports served imported sets = subst (λ l. HaveExports served l sets) (sym (g ∙ ap imports_in e)) h in
    k served there
    ∙ ap (λ l. old ++ flat_map (λ m. unlinked_edge l (at served m) n m) (sorted imported)) f
    ∙ ap (λ l. old ++ flat_map (λ m. unlinked_edge (links n x.text) (at served m) n m) (sorted l)) g
    ∙ ap (λ o. old ++ unlinked_module links served n o) e

-- links of two lists
pub linked_append : (links more : List (Name × Name)) (m : Name) → linked_from (links ++ more) m ≡ linked_from links m ++ linked_from more m
linked_append links more m = ap (map (λ k. k.1)) (filter-append (λ k. same_name k.0 m) links more) ∙ map-append (λ (k : Name × Name). k.1) (filter (λ k. same_name k.0 m) links) (filter (λ k. same_name k.0 m) more)

-- one link more of a list
pub linked_more : (links : List (Name × Name)) (i : ℕ) (d : Name × Name) (m : Name) → i < length links → linked_from (take (i + 1) links) m ≡ linked_from (take i links) m ++ linked_from (get_or links i d ∷ []) m
linked_more links i d m h = ap (λ l. linked_from l m) (take_more links i d h) ∙ linked_append (take i links) (get_or links i d ∷ []) m

-- what one link more adds
pub link_more : (links : List (Name × Name)) (i : ℕ) (d : Name × Name) (m : Name) → i < length links → (link : Name × Name) → link ≡ get_or links i d → (old new : List Name) → new ≡ old ++ linked_from (link ∷ []) m → old ≡ linked_from (take i links) m → new ≡ linked_from (take (i + 1) links) m
link_more links i d m h link e old new f g = f ∙ ap (λ l. l ++ linked_from (link ∷ []) m) g ∙ ap (λ k. linked_from (take i links) m ++ linked_from (k ∷ []) m) e ∙ sym (linked_more links i d m h)

add_step : (b : Bool) (link : Name × Name) (o mid p : Option (List Name)) (names : List Name) → mid ≡ (if b then None else o) → p ≡ (if b then Some names else mid) → (b ≡ true → names ≡ kept_or_none o ++ link.1 ∷ []) → kept_or_none p ≡ kept_or_none o ++ map (λ (k : Name × Name). k.1) (cond b (link ∷ []) [])
add_step true link o mid p names e f g = ap kept_or_none f ∙ g refl
add_step false link o mid p names e f g = ap kept_or_none (f ∙ e) ∙ sym (append-nil (kept_or_none o))

-- a link's name stands behind the others of its module
pub link_added : (link : Name × Name) (old mid new : List (Name × List Name)) (names taken : List Name) → taken ≡ kept_or_none (at old link.0) → names ≡ taken ++ link.1 ∷ [] → ((m : Name) → at mid m ≡ (if same_name link.0 m then None else at old m)) → ((m : Name) → at new m ≡ (if same_name link.0 m then Some names else at mid m)) → (m : Name) → kept_or_none (at new m) ≡ kept_or_none (at old m) ++ linked_from (link ∷ []) m
link_added link old mid new names taken t e f g m = add_step (same_name link.0 m) link (at old m) (at mid m) (at new m) names (f m) (g m)
    (λ q. e ∙ ap (λ k. k ++ link.1 ∷ []) (t ∙ ap (λ k. kept_or_none (at old k)) (same_true link.0 m q)))
