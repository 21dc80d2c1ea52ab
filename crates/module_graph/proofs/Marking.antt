-- The rows of a view: what they hold, one that is put, and those that are marked and leave.
use Rattle.std.proofs.Common.{◌≡◌, ℕ, ◌<◌, ◌+◌, Bool, true, false, List, [], ◌∷◌, length, take, get_or, refl, ap, sym, ◌∙◌}
use Rattle.std.specs.Prelude.{◌||◌, ◌&&◌, not, cond, filter, option_map, Option, Some, None, if◌then◌else◌}
use Rattle.std.specs.List.{IsDistinct}
use Rattle.std.specs.Map.{keys_of, lookup, set_value}
use Rattle.std.proofs.Math.Path.{subst}
use Rattle.std.proofs.lemmas.Bool.{false≢true}
use Rattle.std.proofs.lemmas.Cmp.{nat_list_eq_equiv}
use Rattle.std.proofs.lemmas.Map.{NonePasses, none_passes_from_lookup}
use Rattle.std.proofs.lemmas.Map.Entries.{none_past_head, lookup-filter-keys}
use Rattle.std.proofs.lemmas.Map.Keys.{IsDistinct-tail}
use Rattle.std.proofs.lemmas.Map.Made.{lookup-map_values}
use Rattle.std.proofs.lemmas.Option.{same_Some}
use Rattle.indexmap.specs.IndexMap.{insert_entry}
use Rattle.core_model.specs.Names.{Name, same_name, has, at, names_of, without_all}
use Rattle.core_model.specs.Roots.{are_distinct}
use Rattle.core_model.specs.View.{View, Entry, accepted_of, imports_of}
use Rattle.core_model.proofs.Naming.{same_true, both_true, and_both}
use Rattle.module_graph.specs.declared.view_rows.Row.{Row}
use Rattle.module_graph.specs.Entries.{put_entry}
use Rattle.module_graph.specs.ReverseIndex.{Sets, is_under, IsTurned, IsWithout, Leaves, Places}
use Rattle.module_graph.specs.Rows.{Rows, view_of, are_staying, mark, mark_name, mark_names, AreIndexed}
use Rattle.module_graph.proofs.Rows.{put_distinct, kept_distinct}
use Rattle.module_graph.proofs.Sets.{has_take_more}
use Rattle.module_graph.proofs.Turning.{turned_on}

-- Looking up.

found_step : {X : Type 0} (b c : Bool) (x : X) (y z : Option X) → b ≡ c → y ≡ z → (if b then Some x else y) ≡ cond c (Some x) z
found_step b c x y z e f = ap (λ t. if t then Some x else y) e ∙ ap (λ t. cond c (Some x) t) f

-- the map finds the first entry of a name
pub found : {X : Type 0} (rows : List (Name × X)) (n : Name) → at rows n ≡ lookup (same_name n) rows
found [] n = refl
found (row ∷ rows) n = found_step (same_name row.0 n) (same_name n row.0) row.1 (at rows n) (lookup (same_name n) rows) (nat_list_eq_equiv.symm row.0 n) (found rows n)

pub view_found : (rows : Rows) (n : Name) → at (view_of rows) n ≡ option_map (λ row. row.entry) (lookup (same_name n) rows)
view_found rows n = found (view_of rows) n ∙ lookup-map_values (λ (row : Row). row.entry) (same_name n) rows

pub names_view : (rows : Rows) → names_of (view_of rows) ≡ keys_of rows
names_view [] = refl
names_view (row ∷ rows) = ap (λ l. row.0 ∷ l) (names_view rows)

pub at_without : (names : List Name) (rows : View) (m : Name) → at (without_all names rows) m ≡ cond (not (has names m)) (at rows m) None
at_without names rows m = found (without_all names rows) m
    ∙ lookup-filter-keys (same_name m) (λ k. not (has names k)) (not (has names m)) (λ k t. ap (λ j. not (has names j)) (sym (same_true m k t))) rows
    ∙ ap (λ o. cond (not (has names m)) o None) (sym (found rows m))

-- Putting an entry.

pick : {X : Type 0} (c d : Bool) (x y z : X) → c ≡ d → (if d then x else z) ≡ (if d then x else (if c then y else z))
pick c true x y z h = refl
pick c false x y z h = ap (λ t. if t then y else z) (sym h)

skip : {X : Type 0} (c d : Bool) (x y z w : X) → w ≡ (if d then x else z) → (c ≡ true → d ≡ false) → (if c then y else w) ≡ (if d then x else (if c then y else z))
skip true d x y z w h f = ap (λ t. if t then x else y) (sym (f refl))
skip false d x y z w h f = h

put_at_step : (n : Name) (e : Entry) (row : Name × Entry) (rows : View) (m : Name) (b : Bool) → same_name row.0 n ≡ b → at (put_entry n e rows) m ≡ (if same_name n m then Some e else at rows m)
    → at (if b then (n, e) ∷ rows else row ∷ put_entry n e rows) m ≡ (if same_name n m then Some e else (if same_name row.0 m then Some row.1 else at rows m))
put_at_step n e row rows m true s h = pick (same_name row.0 m) (same_name n m) (Some e) (Some row.1) (at rows m) (ap (λ k. same_name k m) (same_true row.0 n s))
put_at_step n e row rows m false s h = skip (same_name row.0 m) (same_name n m) (Some e) (Some row.1) (at rows m) (at (put_entry n e rows) m) h
    (λ t. nat_list_eq_equiv.symm n m ∙ ap (λ k. same_name k n) (sym (same_true row.0 m t)) ∙ s)

pub put_at : (n : Name) (e : Entry) (rows : View) (m : Name) → at (put_entry n e rows) m ≡ (if same_name n m then Some e else at rows m)
put_at n e [] m = refl
put_at n e (row ∷ rows) m = put_at_step n e row rows m (same_name row.0 n) refl (put_at n e rows m)

list_step : (list : Option Entry → List Name) (b : Bool) (e : Entry) (o : Option Entry) (n : Name) → has (list (if b then Some e else o)) n ≡ (if b then has (list (Some e)) n else has (list o) n)
list_step list true e o n = refl
list_step list false e o n = refl

put_lists : (list : Option Entry → List Name) (name : Name) (e : Entry) (view : View) (n m : Name) → has (list (at (put_entry name e view) m)) n ≡ (if same_name name m then has (list (Some e)) n else has (list (at view m)) n)
put_lists list name e view n m = ap (λ o. has (list o) n) (put_at name e view m) ∙ list_step list (same_name name m) e (at view m) n

insert_step : (n : Name) (r : Row) (row : Name × Row) (rows : Rows) (b c : Bool) → b ≡ c → (c ≡ true → row.0 ≡ n) → view_of (insert_entry same_name rows n r) ≡ put_entry n r.entry (view_of rows)
    → view_of (if b then (row.0, r) ∷ rows else row ∷ insert_entry same_name rows n r) ≡ (if c then (n, r.entry) ∷ view_of rows else (row.0, row.1.entry) ∷ put_entry n r.entry (view_of rows))
insert_step n r row rows true c e f h = ap (λ k. (k, r.entry) ∷ view_of rows) (f (sym e)) ∙ ap (λ t. if t then (n, r.entry) ∷ view_of rows else (row.0, row.1.entry) ∷ put_entry n r.entry (view_of rows)) e
insert_step n r row rows false c e f h = ap (λ l. (row.0, row.1.entry) ∷ l) h ∙ ap (λ t. if t then (n, r.entry) ∷ view_of rows else (row.0, row.1.entry) ∷ put_entry n r.entry (view_of rows)) e

-- the view of a map with a row put in
pub inserted : (n : Name) (r : Row) (rows : Rows) → view_of (insert_entry same_name rows n r) ≡ put_entry n r.entry (view_of rows)
inserted n r [] = refl
inserted n r (row ∷ rows) = insert_step n r row rows (same_name n row.0) (same_name row.0 n) (nat_list_eq_equiv.symm n row.0) (same_true row.0 n) (inserted n r rows)

insert_stays : (n : Name) (r : Row) (row : Name × Row) (rows : Rows) (b : Bool) → not r.leaving ≡ true → are_staying (row ∷ rows) ≡ true → are_staying (insert_entry same_name rows n r) ≡ true
    → are_staying (if b then (row.0, r) ∷ rows else row ∷ insert_entry same_name rows n r) ≡ true
insert_stays n r row rows true s all h = and_both (not r.leaving) (are_staying rows) s (both_true (not row.1.leaving) (are_staying rows) all).1
insert_stays n r row rows false s all h = and_both (not row.1.leaving) (are_staying (insert_entry same_name rows n r)) (both_true (not row.1.leaving) (are_staying rows) all).0 h

insert_staying : (n : Name) (r : Row) (rows : Rows) → not r.leaving ≡ true → are_staying rows ≡ true → are_staying (insert_entry same_name rows n r) ≡ true
insert_staying n r [] s all = and_both (not r.leaving) true s refl
insert_staying n r (row ∷ rows) s all = insert_stays n r row rows (same_name n row.0) s all (insert_staying n r rows s (both_true (not row.1.leaving) (are_staying rows) all).1)

-- Marking.

pub mark_none : (n : Name) (rows : Rows) → NonePasses (same_name n) rows → mark_name n rows ≡ rows
mark_none n [] h = refl
mark_none n (row ∷ rows) h = ap (λ b. (row.0, mark b row.1) ∷ mark_name n rows) h.0 ∙ ap (λ l. row ∷ l) (mark_none n rows h.1)

-- a name that isn't found
pub mark_absent : (n : Name) (rows : Rows) → None ≡ lookup (same_name n) rows → mark_name n rows ≡ rows
mark_absent n rows e = mark_none n rows (none_passes_from_lookup (same_name n) rows (sym e))

mark_step : (n : Name) (row : Name × Row) (rows : Rows) (r : Row) (b : Bool) → Some r ≡ cond b (Some row.1) (lookup (same_name n) rows) → (b ≡ true → NonePasses (same_name n) rows)
    → (Some r ≡ lookup (same_name n) rows → set_value (same_name n) rows (mark true r) ≡ mark_name n rows)
    → cond b ((row.0, mark true r) ∷ rows) (row ∷ set_value (same_name n) rows (mark true r)) ≡ (row.0, mark b row.1) ∷ mark_name n rows
mark_step n row rows r true e f h = ap (λ x. (row.0, mark true x) ∷ rows) (same_Some r row.1 e) ∙ ap (λ l. (row.0, mark true row.1) ∷ l) (sym (mark_none n rows (f refl)))
mark_step n row rows r false e f h = ap (λ l. row ∷ l) (h e)

-- the row that is found, marked in place
pub mark_found : (n : Name) (rows : Rows) (r : Row) → IsDistinct same_name (keys_of rows) → Some r ≡ lookup (same_name n) rows → set_value (same_name n) rows (mark true r) ≡ mark_name n rows
mark_found n [] r d e = refl
mark_found n (row ∷ rows) r d e = mark_step n row rows r (same_name n row.0) e
    (λ t. none_past_head nat_list_eq_equiv n row rows d t)
    (mark_found n rows r (IsDistinct-tail same_name row.0 (keys_of rows) d))

mark_twice : (a b : Bool) (r : Row) → mark a (mark b r) ≡ mark (a || b) r
mark_twice true b r = refl
mark_twice false b r = refl

pub mark_no_names : (rows : Rows) → mark_names [] rows ≡ rows
mark_no_names [] = refl
mark_no_names (row ∷ rows) = ap (λ l. row ∷ l) (mark_no_names rows)

-- one name more of a list
pub mark_more : (xs : List Name) (i : ℕ) (d : Name) (rows : Rows) → i < length xs → mark_name (get_or xs i d) (mark_names (take i xs) rows) ≡ mark_names (take (i + 1) xs) rows
mark_more xs i d [] h = refl
mark_more xs i d (row ∷ rows) h =
    ap (λ r. (row.0, r) ∷ mark_name (get_or xs i d) (mark_names (take i xs) rows)) (mark_twice (same_name (get_or xs i d) row.0) (has (take i xs) row.0) row.1 ∙ ap (λ b. mark b row.1) (sym (has_take_more xs i d row.0 h)))
    ∙ ap (λ l. (row.0, mark (has (take (i + 1) xs) row.0) row.1) ∷ l) (mark_more xs i d rows h)

left_step : (row : Name × Row) (kept : Rows) (view : View) (b l : Bool) → not l ≡ true → view_of kept ≡ view
    → view_of (cond (not (b || l)) ((row.0, record { entry = row.1.entry; leaving = b || l }) ∷ kept) kept) ≡ cond (not b) ((row.0, row.1.entry) ∷ view) view
left_step row kept view true l s h = h
left_step row kept view false true s h = absurd (false≢true s)
left_step row kept view false false s h = ap (λ v. (row.0, row.1.entry) ∷ v) h

-- what is left without the marked rows
pub left : (names : List Name) (rows : Rows) → are_staying rows ≡ true → view_of (filter (λ row. not row.1.leaving) (mark_names names rows)) ≡ without_all names (view_of rows)
left names [] s = refl
left names (row ∷ rows) s =
    let p = both_true (not row.1.leaving) (are_staying rows) s in
    left_step row (filter (λ r. not r.1.leaving) (mark_names names rows)) (without_all names (view_of rows)) (has names row.0) row.1.leaving p.0 (left names rows p.1)

kept_stays : (row : Name × Row) (kept : Rows) (b : Bool) → not row.1.leaving ≡ b → are_staying kept ≡ true → are_staying (cond b (row ∷ kept) kept) ≡ true
kept_stays row kept true e h = and_both (not row.1.leaving) (are_staying kept) e h
kept_stays row kept false e h = h

pub left_staying : (rows : Rows) → are_staying (filter (λ row. not row.1.leaving) rows) ≡ true
left_staying [] = refl
left_staying (row ∷ rows) = kept_stays row (filter (λ r. not r.1.leaving) rows) (not row.1.leaving) refl (left_staying rows)

-- The rows of a view and its indexes.

pub none_indexed : (rows : Rows) (importers acceptors : Sets) → rows ≡ [] → ((n m : Name) → is_under importers n m ≡ false) → ((n m : Name) → is_under acceptors n m ≡ false) → AreIndexed rows importers acceptors
none_indexed rows importers acceptors e h k = subst (λ r. AreIndexed r importers acceptors) (sym e) (record { distinct = refl; staying = refl; imports = record { is = h }; accepted = record { is = k } })

pub same_indexed : (rows new : Rows) (importers acceptors : Sets) → new ≡ rows → AreIndexed rows importers acceptors → AreIndexed new importers acceptors
same_indexed rows new importers acceptors e a = subst (λ r. AreIndexed r importers acceptors) (sym e) a

pub copied_indexed : (rows new : Rows) (importers acceptors importers_now acceptors_now : Sets) → new ≡ rows → ((n m : Name) → is_under importers_now n m ≡ is_under importers n m) → ((n m : Name) → is_under acceptors_now n m ≡ is_under acceptors n m)
    → AreIndexed rows importers acceptors → AreIndexed new importers_now acceptors_now
copied_indexed rows new importers acceptors importers_now acceptors_now e h k a = same_indexed rows new importers_now acceptors_now e (record {
  distinct = a.distinct;
  staying = a.staying;
  imports = record { is = λ n m. h n m ∙ a.imports.is n m };
  accepted = record { is = λ n m. k n m ∙ a.accepted.is n m };
})

own_step : (list : Option Entry → List Name) (name m : Name) (view : View) (n : Name) (b : Bool) → (b ≡ true → name ≡ m) → has (list (at view m)) n ≡ (if b then has (list (at view name)) n else has (list (at view m)) n)
own_step list name m view n true f = ap (λ k. has (list (at view k)) n) (sym (f refl))
own_step list name m view n false f = refl

-- the module still lists what it did
refused_turned : (list : Option Entry → List Name) (name : Name) (view : View) (sets next : Sets) → IsTurned list view sets → Places name (has (list (at view name))) sets next → IsTurned list view next
refused_turned list name view sets next t p = turned_on list view view name (list (at view name)) sets next t p (λ n m. own_step list name m view n (same_name name m) (same_true name m))

pub refused_indexed : (name : Name) (rows new : Rows) (importers acceptors importers_now acceptors_now : Sets) → new ≡ rows
    → Places name (has (imports_of (at (view_of rows) name))) importers importers_now → Places name (has (accepted_of (at (view_of rows) name))) acceptors acceptors_now
    → AreIndexed rows importers acceptors → AreIndexed new importers_now acceptors_now
refused_indexed name rows new importers acceptors importers_now acceptors_now e p q a = same_indexed rows new importers_now acceptors_now e (record {
  distinct = a.distinct;
  staying = a.staying;
  imports = refused_turned imports_of name (view_of rows) importers importers_now a.imports p;
  accepted = refused_turned accepted_of name (view_of rows) acceptors acceptors_now a.accepted q;
})

-- it lists what its new entry says
put_turned : (list : Option Entry → List Name) (name : Name) (r : Row) (rows : Rows) (sets next : Sets) → IsTurned list (view_of rows) sets → Places name (has (list (Some r.entry))) sets next → IsTurned list (view_of (insert_entry same_name rows name r)) next
put_turned list name r rows sets next t p = subst (λ (v : View). IsTurned list v next) (sym (inserted name r rows))
    (turned_on list (view_of rows) (put_entry name r.entry (view_of rows)) name (list (Some r.entry)) sets next t p (put_lists list name r.entry (view_of rows)))

pub put_indexed : (name : Name) (r : Row) (rows new : Rows) (importers acceptors importers_now acceptors_now : Sets) → not r.leaving ≡ true → new ≡ insert_entry same_name rows name r
    → Places name (has r.entry.analysis.imports) importers importers_now → Places name (has r.entry.analysis.accepted) acceptors acceptors_now
    → AreIndexed rows importers acceptors → AreIndexed new importers_now acceptors_now
put_indexed name r rows new importers acceptors importers_now acceptors_now s e p q a = same_indexed (insert_entry same_name rows name r) new importers_now acceptors_now e (record {
  distinct = ap (λ (v : View). are_distinct (names_of v)) (inserted name r rows) ∙ put_distinct name r.entry (view_of rows) a.distinct;
  staying = insert_staying name r rows s a.staying;
  imports = put_turned imports_of name r rows importers importers_now a.imports p;
  accepted = put_turned accepted_of name r rows acceptors acceptors_now a.accepted q;
})

gone_step : (list : Option Entry → List Name) → list None ≡ [] → (b : Bool) (o : Option Entry) (n : Name) → has (list (cond (not b) o None)) n ≡ (if b then false else has (list o) n)
gone_step list e true o n = ap (λ l. has l n) e
gone_step list e false o n = refl

-- the modules of these names are gone
gone_turned : (list : Option Entry → List Name) → list None ≡ [] → (names : List Name) (view next : View) (sets now : Sets) → next ≡ without_all names view → IsWithout names sets now → IsTurned list view sets → IsTurned list next now
gone_turned list none names view next sets now e h t = subst (λ (v : View). IsTurned list v now) (sym e) (record {
  is = λ n m. h.is n m ∙ ap (λ u. if has names m then false else u) (t.is n m)
      ∙ sym (ap (λ o. has (list o) n) (at_without names view m) ∙ gone_step list none (has names m) (at view m) n);
})

pub gone_indexed : (names : List Name) (rows new : Rows) (importers acceptors importers_now acceptors_now : Sets) → view_of new ≡ without_all names (view_of rows) → are_staying new ≡ true
    → IsWithout names importers importers_now → IsWithout names acceptors acceptors_now → AreIndexed rows importers acceptors → AreIndexed new importers_now acceptors_now
gone_indexed names rows new importers acceptors importers_now acceptors_now e s h k a = record {
  distinct = ap (λ (v : View). are_distinct (names_of v)) e ∙ kept_distinct (λ (row : Name × Entry). not (has names row.0)) (view_of rows) a.distinct;
  staying = s;
  imports = gone_turned imports_of refl names (view_of rows) (view_of new) importers importers_now e h a.imports;
  accepted = gone_turned accepted_of refl names (view_of rows) (view_of new) acceptors acceptors_now e k a.accepted;
}

module_gone : (b u old : Bool) → u ≡ (if b then false else old) → (if old && true then false else u) ≡ false
module_gone b u true e = refl
module_gone true u false e = e
module_gone false u false e = e

gone_case : (x n m : Name) (old cur new : Sets) (h s : Bool) → (s ≡ true → x ≡ m) → same_name x m ≡ s → is_under new n x ≡ false → is_under cur n m ≡ (if h then false else is_under old n m)
    → (same_name x m ≡ false → is_under new n m ≡ is_under cur n m) → is_under new n m ≡ (if s || h then false else is_under old n m)
gone_case x n m old cur new h true f e own was other = ap (is_under new n) (sym (f refl)) ∙ own
gone_case x n m old cur new h false f e own was other = other e ∙ was

pub none_gone : (names : List Name) (sets : Sets) → IsWithout (take 0 names) sets sets
none_gone names sets = record { is = λ n m. refl }

-- one name more of a list: its module goes from under all that it lists
pub gone_more : (list : Option Entry → List Name) (view : View) (xs : List Name) (i : ℕ) (d : Name) (old cur new : Sets) → IsTurned list view old → i < length xs → IsWithout (take i xs) old cur
    → Leaves (get_or xs i d) (list (at view (get_or xs i d))) [] cur new → IsWithout (take (i + 1) xs) old new
gone_more list view xs i d old cur new t h was p = record {
  is = λ n m.
      let x = get_or xs i d in
      gone_case x n m old cur new (has (take i xs) m) (same_name x m) (same_true x m) refl
      (p.own n ∙ module_gone (has (take i xs) x) (is_under cur n x) (has (list (at view x)) n) (was.is n x ∙ ap (λ u. if has (take i xs) x then false else u) (t.is n x)))
      (was.is n m) (p.others n m)
      ∙ ap (λ b. if b then false else is_under old n m) (sym (has_take_more xs i d m h));
}
