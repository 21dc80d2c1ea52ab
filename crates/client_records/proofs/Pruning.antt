-- What stays of a page when what no root reaches leaves it.
use Rattle.std.proofs.Common.{◌≡◌, ℕ, ◌<◌, ◌+◌, Bool, true, false, List, [], ◌∷◌, ◌++◌, length, take, get_or, refl, ap, sym, ◌∙◌}
use Rattle.std.specs.Prelude.{◌&&◌, ◌||◌, not, cond, filter, Option, None, is_some, if◌then◌else◌}
use Rattle.std.specs.Cmp.Lexicographic.{slice_cmp}
use Rattle.std.specs.List.Sorted.{IsStrictlySortedBy}
use Rattle.std.specs.Ordering.{nat_cmp}
use Rattle.std.proofs.lemmas.Bool.{false≢true}
use Rattle.std.proofs.lemmas.List.{take_more}
use Rattle.std.proofs.lemmas.List.Kept.{IsStrictlySortedBy-filter}
use Rattle.std.proofs.Math.Path.{subst}
use Rattle.core_model.specs.Names.{Name, same_name, has, at, names_of, without_all}
use Rattle.core_model.specs.Paths.{Reaches}
use Rattle.core_model.specs.Sources.{Sources}
use Rattle.core_model.specs.View.{View, Entry, IsDropped, differs, dropped_of, imports, imports_of, is_in, reached_in}
use Rattle.core_model.specs.Client.{Client}
use Rattle.core_model.specs.Asking.{asked, prune}
use Rattle.core_model.specs.Spread.{AreIn}
use Rattle.core_model.proofs.Naming.{filtered_from, has_is, has_more, no_names, same_test, same_true, true_same}
use Rattle.core_model.proofs.Reaching.{reaches_on, reaches_start, reaches_within}
use Rattle.core_model.proofs.Tables.{both_ways, filtered_row, named, without_step}
use Rattle.core_model.proofs.Views.{dropped_are, reached_is}
use Rattle.page_plan.specs.Renewals.{IsClosed}
use Rattle.client_queue.specs.Queue.{Queue, is_marked, knows, mark_in}
use Rattle.client_records.specs.Forgotten.{Forgotten}
use Rattle.client_records.specs.Inside.{AreCounted}
use Rattle.client_records.specs.Record.{Kept, IsRecord}

module _ {X : Type 0} where
  -- the entries of other names, looked up
  pub at_without_all : (names : List Name) (rows : List (Name × X)) (m : Name) → at (without_all names rows) m ≡ (if has names m then None else at rows m)
  at_without_all names [] m = both_ways (has names m) None
  at_without_all names (row ∷ rows) m = filtered_row (not (has names row.0)) row (without_all names rows) m
      ∙ without_step (has names row.0) (same_name row.0 m) (has names m) row.1 (at rows m) (at (without_all names rows) m) (λ e. ap (has names) (same_true row.0 m e)) (at_without_all names rows m)

  names_step : (names : List Name) (row : Name × X) (rows : List (Name × X)) (keep : Bool) → names_of (without_all names rows) ≡ filter (λ m. not (has names m)) (names_of rows)
      → names_of (cond keep (row ∷ without_all names rows) (without_all names rows)) ≡ cond keep (row.0 ∷ filter (λ m. not (has names m)) (names_of rows)) (filter (λ m. not (has names m)) (names_of rows))
  names_step names row rows true e = ap (λ l. row.0 ∷ l) e
  names_step names row rows false e = e

  -- and their names
  pub names_left : (names : List Name) (rows : List (Name × X)) → names_of (without_all names rows) ≡ filter (λ m. not (has names m)) (names_of rows)
  names_left names [] = refl
  names_left names (row ∷ rows) = names_step names row rows (not (has names row.0)) (names_left names rows)

-- they rise
pub left_rises : (names : List Name) (view : View) → IsStrictlySortedBy (slice_cmp nat_cmp) (names_of view) → IsStrictlySortedBy (slice_cmp nat_cmp) (names_of (without_all names view))
left_rises names view s = subst (IsStrictlySortedBy (slice_cmp nat_cmp)) (sym (names_left names view)) (IsStrictlySortedBy-filter (slice_cmp nat_cmp) (λ m. not (has names m)) (names_of view) s)

counted_step : (names : List Name) (row : Name × Entry) (rows : View) (keep : Bool) → AreCounted (row ∷ rows) → AreCounted (without_all names rows) → AreCounted (cond keep (row ∷ without_all names rows) (without_all names rows))
counted_step names row rows true h r = (h.0, r)
counted_step names row rows false h r = r

-- and their versions are those of counted edits
pub left_counted : (names : List Name) (view : View) → AreCounted view → AreCounted (without_all names view)
left_counted names [] h = h
left_counted names (row ∷ rows) h = counted_step names row rows (not (has names row.0)) h (left_counted names rows h.1)

-- a reached name isn't dropped
reached_undropped : (view : View) (roots : List Name) (n : Name) → Reaches (imports view) roots n → has (dropped_of view roots) n ≡ false
reached_undropped view roots n r = by_test (has (dropped_of view roots) n) (λ h. ((dropped_are view roots n).0 ((has_is (dropped_of view roots) n).1 h)).unreached r)
  where
    by_test : (b : Bool) → (b ≡ true → ⊥) → b ≡ false
    by_test true f = absurd (f refl)
    by_test false f = refl

kept_import : (names : List Name) (view : View) (n m : Name) → has names n ≡ false → imports view n m ≡ true → imports (without_all names view) n m ≡ true
kept_import names view n m e h = ap (λ o. has (imports_of o) m) (at_without_all names view n) ∙ ap (λ b. has (imports_of (if b then None else at view n)) m) e ∙ h

left_step : (b : Bool) (o : Option Entry) (m : Name) → has (imports_of (if b then None else o)) m ≡ true → has (imports_of o) m ≡ true
left_step true o m h = absurd (false≢true h)
left_step false o m h = h

left_import : (names : List Name) (view : View) (n m : Name) → imports (without_all names view) n m ≡ true → imports view n m ≡ true
left_import names view n m h = left_step (has names n) (at view n) m (ap (λ o. has (imports_of o) m) (sym (at_without_all names view n)) ∙ h)

-- what is reached stays reached
stays_reached : (view : View) (roots : List Name) (n : Name) → Reaches (imports view) roots n → Reaches (imports (without_all (dropped_of view roots) view)) roots n
stays_reached view roots n r = (reaches_within (imports view) roots (λ m. Reaches (imports view) roots m × Reaches (imports (without_all (dropped_of view roots) view)) roots m)
    (λ m h. (reaches_start (imports view) roots m h, reaches_start (imports (without_all (dropped_of view roots) view)) roots m h))
    (λ k m p e. (reaches_on (imports view) roots k m p.0 e, reaches_on (imports (without_all (dropped_of view roots) view)) roots k m p.1 (kept_import (dropped_of view roots) view k m (reached_undropped view roots k p.0) e)))
    n r).1

left_from : (b : Bool) (o : Option Entry) → is_some (if b then None else o) ≡ true → (b ≡ false) × (is_some o ≡ true)
left_from true o h = absurd (false≢true h)
left_from false o h = (refl, h)

-- without what is dropped nothing is dropped
pub none_dropped : (view : View) (roots : List Name) → dropped_of (without_all (dropped_of view roots) view) roots ≡ []
none_dropped view roots = no_names (dropped_of (without_all (dropped_of view roots) view) roots) (λ n h. refuted n ((dropped_are (without_all (dropped_of view roots) view) roots n).0 ((has_is (dropped_of (without_all (dropped_of view roots) view) roots) n).1 h)))
  where
    refuted : (n : Name) → IsDropped (without_all (dropped_of view roots) view) roots n → ⊥
    refuted n d = go (left_from (has (dropped_of view roots) n) (at view n) (ap is_some (sym (at_without_all (dropped_of view roots) view n)) ∙ named (without_all (dropped_of view roots) view) n ∙ (has_is (names_of (without_all (dropped_of view roots) view)) n).0 d.listed))
      where
        go : (has (dropped_of view roots) n ≡ false) × (is_some (at view n) ≡ true) → ⊥
        go p = by_test (has (reached_in view roots) n) refl
          where
            by_test : (b : Bool) → has (reached_in view roots) n ≡ b → ⊥
            by_test true e = d.unreached (stays_reached view roots n ((reached_is view roots n).0 e))
            by_test false e = false≢true (sym p.0 ∙ (has_is (dropped_of view roots) n).0 ((dropped_are view roots n).1 (record { listed = (has_is (names_of view) n).1 (sym (named view n) ∙ p.1); unreached = λ r. false≢true (sym e ∙ (reached_is view roots n).1 r) })))

-- and nothing is missing that wasn't
pub left_closed : (view : View) (roots : List Name) → IsClosed roots view → IsClosed roots (without_all (dropped_of view roots) view)
left_closed view roots closed n r =
    let reached : Reaches (imports view) roots n = reaches_within (imports (without_all (dropped_of view roots) view)) roots (Reaches (imports view) roots) (reaches_start (imports view) roots)
    (λ k m s e. reaches_on (imports view) roots k m s (left_import (dropped_of view roots) view k m e)) n r in
    ap is_some (at_without_all (dropped_of view roots) view n) ∙ ap (λ b. is_some (if b then None else at view n)) (reached_undropped view roots n reached) ∙ closed n reached

mark_step : (b : Bool) (o : Option Bool) (e : Option Entry) (s : Sources) (m : Name) → mark_in o ≡ differs e (at s.served m) → mark_in (if b then None else o) ≡ differs (if b then None else e) (at s.served m)
mark_step true o e s m h = refl
mark_step false o e s m h = h

-- what is kept where the dropped modules leave the page
pub prune_stands : (s : Sources) (c : Client) (k : Kept) (q : Queue) → IsRecord s c k → Forgotten k.dropped k.queue q → IsRecord s (asked (prune k.dropped) s c) (record k { view = without_all k.dropped k.view; queue = q; dropped = [] })
prune_stands s c k q h f = record {
  roots = h.roots;
  batches = h.batches;
  loaded = h.loaded;
  view = ap (without_all k.dropped) h.view;
  forced = f.forced ∙ ap (filter (λ m. not (has k.dropped m))) h.forced;
  plan = h.plan;
  plan_at = h.plan_at;
  held = ap (λ (p : Queue). p.held) f.kept ∙ h.held;
  notices = λ m. ap (λ (p : Queue). at p.notices m) f.kept ∙ h.notices m;
  dropped = sym (ap (λ l. dropped_of (without_all l c.page.view) c.roots) h.dropped ∙ none_dropped c.page.view c.roots);
  marks = λ m. ap mark_in (f.known m) ∙ mark_step (has k.dropped m) (at k.queue.known m) (at c.page.view m) s m (h.marks m) ∙ ap (λ o. differs o (at s.served m)) (sym (at_without_all k.dropped c.page.view m));
}

known_step : (b : Bool) (o : Option Bool) (e : Option Entry) → (is_some e ≡ true → is_some o ≡ true) → is_some (if b then None else e) ≡ true → is_some (if b then None else o) ≡ true
known_step true o e f h = h
known_step false o e f h = f h

marked_step : (b : Bool) (o : Option Bool) (e : Option Entry) → (mark_in o ≡ true → is_some e ≡ true) → mark_in (if b then None else o) ≡ true → is_some (if b then None else e) ≡ true
marked_step true o e f h = h
marked_step false o e f h = f h

pub left_known : (names : List Name) (view : View) (old new : Queue) → Forgotten names old new → ((n : Name) → is_in view n ≡ true → knows old n ≡ true) → (n : Name) → is_in (without_all names view) n ≡ true → knows new n ≡ true
left_known names view old new f h n i = ap is_some (f.known n) ∙ known_step (has names n) (at old.known n) (at view n) (h n) (ap is_some (sym (at_without_all names view n)) ∙ i)

pub left_marked : (names : List Name) (view : View) (old new : Queue) → Forgotten names old new → ((n : Name) → is_marked old n ≡ true → is_in view n ≡ true) → (n : Name) → is_marked new n ≡ true → is_in (without_all names view) n ≡ true
left_marked names view old new f h n i = ap is_some (at_without_all names view n) ∙ marked_step (has names n) (at old.known n) (at view n) (h n) (ap mark_in (sym (f.known n)) ∙ i)

keep_step : (b : Bool) → not b ≡ true → b ≡ false
keep_step true h = absurd (false≢true h)
keep_step false h = refl

pub left_forced : (names : List Name) (view : View) (old new : Queue) → Forgotten names old new → AreIn old.forced view → AreIn new.forced (without_all names view)
left_forced names view old new f h = λ n i. go n (filtered_from (λ m. not (has names m)) old.forced n (ap (λ l. has l n) (sym f.forced) ∙ (has_is new.forced n).0 i))
  where
    go : (n : Name) → (not (has names n) ≡ true) × (has old.forced n ≡ true) → has (names_of (without_all names view)) n ≡ true
    go n p = sym (named (without_all names view) n) ∙ ap is_some (at_without_all names view n) ∙ ap (λ b. is_some (if b then None else at view n)) (keep_step (has names n) p.0) ∙ named view n ∙ h n ((has_is old.forced n).1 p.1)

twice_step : (p : Name → Bool) (x : Name) (rest more : List Name) (q b : Bool) → p x ≡ b → filter p rest ≡ more → filter p (cond q (x ∷ rest) rest) ≡ cond (q && b) (x ∷ more) more
twice_step p x rest more false b px e = e
twice_step p x rest more true true px e = ap (λ c. cond c (x ∷ filter p rest) (filter p rest)) px ∙ ap (λ l. x ∷ l) e
twice_step p x rest more true false px e = ap (λ c. cond c (x ∷ filter p rest) (filter p rest)) px ∙ e

filter_twice : (p q r : Name → Bool) → ((m : Name) → (q m && p m) ≡ r m) → (names : List Name) → filter p (filter q names) ≡ filter r names
filter_twice p q r h [] = refl
filter_twice p q r h (x ∷ names) = twice_step p x (filter q names) (filter r names) (q x) (p x) refl (filter_twice p q r h names) ∙ ap (λ c. cond c (x ∷ filter r names) (filter r names)) (h x)

either_way : (k j : Name) → same_name k j ≡ same_name j k
either_way k j = same_test _ _ (λ h. true_same j k (sym (same_true k j h))) (λ h. true_same k j (sym (same_true j k h)))

not_both : (a b : Bool) → (not a && not b) ≡ not (a || (b || false))
not_both true b = refl
not_both false true = refl
not_both false false = refl

both_gone : (a b : Bool) (o : Option Bool) → (if b then None else (if a then None else o)) ≡ (if a || (b || false) then None else o)
both_gone true true o = refl
both_gone true false o = refl
both_gone false true o = refl
both_gone false false o = refl

-- of a list without some names one name more is taken out
pub unforced_step : (names : List Name) (n : Name) (forced : List Name) → filter (λ m. not (same_name m n)) (filter (λ m. not (has names m)) forced) ≡ filter (λ m. not (has (names ++ n ∷ []) m)) forced
unforced_step names n forced = filter_twice (λ m. not (same_name m n)) (λ m. not (has names m)) (λ m. not (has (names ++ n ∷ []) m))
    (λ m. ap (λ b. not (has names m) && not b) (either_way m n) ∙ not_both (has names m) (same_name n m) ∙ ap not (sym (has_more names n m))) forced

-- one name more leaves the queue
pub forgotten_more : (names : List Name) (i : ℕ) (d : Name) (old now mid new : Queue) → i < length names → Forgotten (take i names) old now
    → mid ≡ record now { forced = filter (λ m. not (same_name m (get_or names i d))) now.forced } → ((m : Name) → at new.known m ≡ (if same_name (get_or names i d) m then None else at mid.known m)) → new ≡ record mid { known = new.known } → Forgotten (take (i + 1) names) old new
forgotten_more names i d old now mid new h f e g k = subst (λ l. Forgotten l old new) (sym (take_more names i d h)) (record {
  known = λ m. g m ∙ ap (λ (q : Queue). if same_name (get_or names i d) m then None else at q.known m) e ∙ ap (λ o. if same_name (get_or names i d) m then None else o) (f.known m)
      ∙ both_gone (has (take i names) m) (same_name (get_or names i d) m) (at old.known m) ∙ ap (λ b. if b then None else at old.known m) (sym (has_more (take i names) (get_or names i d) m));
  forced = ap (λ (q : Queue). q.forced) k ∙ ap (λ (q : Queue). q.forced) e ∙ ap (filter (λ m. not (same_name m (get_or names i d)))) f.forced ∙ unforced_step (take i names) (get_or names i d) old.forced;
  kept = k ∙ ap (λ (q : Queue). record q { known = new.known }) e ∙ ap (λ (q : Queue). record q { known = new.known; forced = filter (λ m. not (same_name m (get_or names i d))) now.forced }) f.kept
      ∙ ap (λ l. record old { known = new.known; forced = l }) (sym (ap (λ (q : Queue). q.forced) k ∙ ap (λ (q : Queue). q.forced) e));
})

pub kept_all : (names : List Name) → names ≡ filter (λ m. not (has [] m)) names
kept_all [] = refl
kept_all (n ∷ names) = ap (λ l. n ∷ l) (kept_all names)

-- no name left yet
pub forgotten_none : (q : Queue) → Forgotten [] q q
forgotten_none q = record { known = λ m. refl; forced = kept_all q.forced; kept = refl }

pub forgotten_at : (names : List Name) (i : ℕ) (n : Name) (old now mid new : Queue) → i < length names → n ≡ get_or names i n → Forgotten (take i names) old now
    → mid ≡ record now { forced = filter (λ m. not (same_name m n)) now.forced } → ((m : Name) → at new.known m ≡ (if same_name n m then None else at mid.known m)) → new ≡ record mid { known = new.known } → Forgotten (take (i + 1) names) old new
forgotten_at names i n old now mid new h e f u g k = forgotten_more names i n old now mid new h f
    (subst (λ x. mid ≡ record now { forced = filter (λ m. not (same_name m x)) now.forced }) e u)
    (subst (λ x. (m : Name) → at new.known m ≡ (if same_name x m then None else at mid.known m)) e g) k

-- the same, by the parts of what is kept
pub prune_so : (s : Sources) (c : Client) (k now : Kept) (names more : List Name) (view : View) (q : Queue) → IsRecord s c k → k ≡ now → names ≡ k.dropped → view ≡ without_all names k.view → Forgotten names k.queue q → more ≡ []
    → IsRecord s (asked (prune now.dropped) s c) (record k { view = view; queue = q; dropped = more })
prune_so s c k now names more view q h e n v f m = subst (λ (x : Kept). IsRecord s (asked (prune x.dropped) s c) (record k { view = view; queue = q; dropped = more })) e
    (subst (λ l. IsRecord s (asked (prune k.dropped) s c) (record k { view = view; queue = q; dropped = l })) (sym m)
    (subst (λ w. IsRecord s (asked (prune k.dropped) s c) (record k { view = w; queue = q; dropped = [] })) (sym (v ∙ ap (λ l. without_all l k.view) n))
    (prune_stands s c k q h (subst (λ l. Forgotten l k.queue q) n f))))
