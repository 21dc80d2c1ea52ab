-- Each request keeps the facts of its client's record.
use Rattle.std.proofs.Common.{◌≡◌, ◌⊎◌, inl, inr, ℕ, Bool, true, false, List, [], ◌∷◌, ◌++◌, refl, ap, sym, ◌∙◌, arith}
use Rattle.std.specs.Prelude.{◌==◌, not, filter, Option, Some, None, is_some, if◌then◌else◌}
use Prim.{⊥}
use Rattle.std.proofs.Math.Path.{subst}
use Rattle.std.proofs.lemmas.Bool.{false≢true}
use Rattle.hmr_types.specs.declared.analysis.Analysis.{Analysis}
use Rattle.hmr_types.specs.declared.analysis.TextFault.{TextFault}
use Rattle.hmr_types.specs.declared.words.PlanKind.{PlanKind}
use Rattle.hmr_types.specs.declared.words.PlanKind.TheVariants.{Load, Reload, Update}
use Rattle.core_model.specs.Names.{Name, same_name, has, at, without_all, names_of, put_name, sorted}
use Rattle.core_model.specs.Paths.{Reaches}
use Rattle.core_model.specs.Sources.{Sources, Source, Serving, Verdict, outstanding, good, bad}
use Rattle.core_model.specs.View.{View, Entry, is_in, imports_of, imports, accepts_itself, self_accepts, reached_in, dropped_of}
use Rattle.core_model.specs.Page.{Plan, kept_or_staged, entry_at, plan_imports, met_of, unfetched_of, unmet_entry, new_entry, new_view}
use Rattle.core_model.specs.Client.{Client, changed}
use Rattle.core_model.specs.Asking.{AskRow, out_of_turn, tell, load, idle, prune, reload, update, ask_row, asked}
use Rattle.core_model.specs.Requests.{Request, ask, fetch, applied_as, aborted, invalidate, text, row_served, row_verdict, fetched, done, row_unfetched, row_differing, after_applied, is_at_version, invalidated, fetched_in, applied_in, aborted_in, invalidated_in, heard}
use Rattle.core_model.proofs.Naming.{has_is, same_true, cases_bool, both_true, not_true, put_has, or_cases, sorted_has, filtered_from, filtered_in}
use Rattle.core_model.proofs.Reaching.{reaches_on, reaches_start}
use Rattle.core_model.proofs.Rising.{collect_rises, sorted_rises}
use Rattle.core_model.proofs.Tables.{named, at_with_row}
use Rattle.core_model.proofs.Views.{reached_is, dropped_are, importer_named}
use Rattle.core_model.proofs.Planning.{met_is, at_new}
use Rattle.core_laws.specs.Given.{entry_of, IsGiven, AreGiven}
use Rattle.core_laws.specs.Facts.{IsClosed, IsServed, IsUpdate, KindIs, PlanIs, PlanIsServed, ClientFacts}
use Rattle.core_laws.proofs.Looking.{at_without_all, kept_rises}
use Rattle.core_laws.proofs.Rows.{Right, right_row}
use Rattle.core_laws.proofs.Times.{unchanged_served, changed_in, unreplaced_unchanged, replaced_spread, replaced_in}

-- What a view loses.

-- a name of the view that isn't dropped is reached
pub undropped_reached : (view : View) (roots : List Name) (n : Name) → is_in view n ≡ true → has (dropped_of view roots) n ≡ false → Reaches (imports view) roots n
undropped_reached view roots n h d = by_test (has (reached_in_view) n) refl
  where
    reached_in_view : List Name
    reached_in_view = reached_in view roots

    by_test : (b : Bool) → has reached_in_view n ≡ b → Reaches (imports view) roots n
    by_test true e = (reached_is view roots n).0 e
    by_test false e = absurd (false≢true (sym d ∙ (has_is (dropped_of view roots) n).0 ((dropped_are view roots n).1 (record { listed = (has_is (names_of view) n).1 (sym (named view n) ∙ h); unreached = λ r. false≢true (sym e ∙ (reached_is view roots n).1 r) }))))

-- a reached name isn't dropped
pub reached_undropped : (view : View) (roots : List Name) (n : Name) → Reaches (imports view) roots n → has (dropped_of view roots) n ≡ false
reached_undropped view roots n r = by_test (has (dropped_of view roots) n) (λ h. ((dropped_are view roots n).0 ((has_is (dropped_of view roots) n).1 h)).unreached r)
  where
    by_test : (b : Bool) → (b ≡ true → ⊥) → b ≡ false
    by_test true f = absurd (f refl)
    by_test false f = refl

given_if : (by : ℕ → Option Analysis) (b : Bool) (x y : Option Entry) → IsGiven by x → IsGiven by y → IsGiven by (if b then x else y)
given_if by true x y gx gy = gx
given_if by false x y gx gy = gy

there_if : (b : Bool) (o : Option Entry) → b ≡ false → is_some o ≡ true → is_some (if b then None else o) ≡ true
there_if true o e h = absurd (false≢true (sym e))
there_if false o e h = h

from_if : (b : Bool) (o : Option Entry) (m : Name) → has (imports_of (if b then None else o)) m ≡ true → (b ≡ false) × (has (imports_of o) m ≡ true)
from_if true o m h = absurd (false≢true h)
from_if false o m h = (refl, h)

-- a closed view without what is dropped is closed
pub pruned_closed : (roots : List Name) (view : View) (ds : List Name) → dropped_of view roots ≡ ds → IsClosed roots view → IsClosed roots (without_all ds view)
pruned_closed roots view ds e old = record {
  begun = λ n h. ap is_some (at_without_all ds view n) ∙ there_if (has ds n) (at view n) (kept n (reaches_start (imports view) roots n h)) (old.begun n h);
  on = λ n m h. on_by n m (from_if (has ds n) (at view n) m (sym (ap (λ o. has (imports_of o) m) (at_without_all ds view n)) ∙ h));
}
  where
    kept : (n : Name) → Reaches (imports view) roots n → has ds n ≡ false
    kept n r = ap (λ l. has l n) (sym e) ∙ reached_undropped view roots n r

    on_by : (n m : Name) → (has ds n ≡ false) × (imports view n m ≡ true) → is_in (without_all ds view) m ≡ true
    on_by n m h =
        let reached : Reaches (imports view) roots n = undropped_reached view roots n (named view n ∙ importer_named view n m h.1) (ap (λ l. has l n) e ∙ h.0) in
        ap is_some (at_without_all ds view m) ∙ there_if (has ds m) (at view m) (kept m (reaches_on (imports view) roots n m reached h.1)) (old.on n m h.1)

-- What a plan makes.

kept_given : (by : ℕ → Option Analysis) (kind : PlanKind) (is_replaced : Bool) (kept new : Option Entry) → IsGiven by kept → IsGiven by new → IsGiven by (kept_or_staged kind is_replaced kept new)
kept_given by Load r kept new g h = h
kept_given by Reload r kept new g h = h
kept_given by Update true kept new g h = h
kept_given by Update false None new g h = h
kept_given by Update false (Some e) new g h = g

unmet_given : (by : ℕ → Option Analysis) (kind : PlanKind) (o : Option Entry) → IsGiven by o → IsGiven by (unmet_entry kind o)
unmet_given by Load o g = tt
unmet_given by Reload o g = tt
unmet_given by Update o g = g

new_given : (by : Name → ℕ → Option Analysis) (b : Bool) (p : Plan) (view : View) (n : Name) → AreGiven by view → AreGiven by p.staged → IsGiven (by n) (new_entry b p view n)
new_given by true p view n g h = kept_given (by n) p.kind (has p.replaced n) (at view n) (at p.staged n) (g n) (h n)
new_given by false p view n g h = unmet_given (by n) p.kind (at view n) (g n)

module _ (roots : List Name) (p : Plan) (view : View) (all : unfetched_of roots p view ≡ []) where
  -- each met name has an entry
  pub met_entry : (n : Name) → has (met_of roots p view) n ≡ true → is_some (entry_at p view n) ≡ true
  met_entry n h = by_test (is_some (entry_at p view n)) (λ t. filtered_in (λ k. not (is_some (entry_at p view k))) (met_of roots p view) n t h)
    where
      by_test : (b : Bool) → (not b ≡ true → has (filter (λ k. not (is_some (entry_at p view k))) (met_of roots p view)) n ≡ true) → b ≡ true
      by_test true f = refl
      by_test false f = sym (ap (λ l. has l n) all) ∙ sorted_has (filter (λ k. not (is_some (entry_at p view k))) (met_of roots p view)) n ∙ f refl

  pub met_in : (n : Name) → has (met_of roots p view) n ≡ true → is_in (new_view roots p view) n ≡ true
  met_in n h = ap is_some (at_new roots p view n ∙ ap (λ b. new_entry b p view n) h) ∙ met_entry n h

  old_in : p.kind ≡ Update → (b : Bool) (n : Name) → has (met_of roots p view) n ≡ b → is_in view n ≡ true → is_in (new_view roots p view) n ≡ true
  old_in k true n e h = met_in n e
  old_in k false n e h = ap is_some (at_new roots p view n ∙ ap (λ b. new_entry b p view n) e ∙ ap (λ j. unmet_entry j (at view n)) k) ∙ h

  met_on : (n m : Name) → has (met_of roots p view) n ≡ true → plan_imports p view n m ≡ true → is_in (new_view roots p view) m ≡ true
  met_on n m h by = met_in m ((met_is roots p view m).1 (reaches_on (plan_imports p view) roots n m ((met_is roots p view n).0 h) by))

  unmet_on : (kind : PlanKind) (loaded : Bool) (forced : List Name) → p.kind ≡ kind → KindIs kind roots loaded view forced p.replaced → (loaded ≡ true → IsClosed roots view) → (n m : Name) → has (imports_of (unmet_entry kind (at view n))) m ≡ true → is_in (new_view roots p view) m ≡ true
  unmet_on Load loaded forced e k old n m h = absurd (false≢true h)
  unmet_on Reload loaded forced e k old n m h = absurd (false≢true h)
  unmet_on Update loaded forced e k old n m h = old_in e (has (met_of roots p view) m) m refl ((old k.page.is_loaded).on n m h)

  new_on : (loaded : Bool) (forced : List Name) → KindIs p.kind roots loaded view forced p.replaced → (loaded ≡ true → IsClosed roots view) → (b : Bool) (n m : Name) → has (met_of roots p view) n ≡ b → has (imports_of (new_entry b p view n)) m ≡ true → is_in (new_view roots p view) m ≡ true
  new_on loaded forced k old true n m e h = met_on n m e h
  new_on loaded forced k old false n m e h = unmet_on p.kind loaded forced refl k old n m h

  -- the new view is closed
  pub new_closed : (loaded : Bool) (forced : List Name) → KindIs p.kind roots loaded view forced p.replaced → (loaded ≡ true → IsClosed roots view) → IsClosed roots (new_view roots p view)
  new_closed loaded forced k old = record {
    begun = λ n h. met_in n ((met_is roots p view n).1 (reaches_start (plan_imports p view) roots n h));
    on = λ n m h. new_on loaded forced k old (has (met_of roots p view) n) n m refl (sym (ap (λ o. has (imports_of o) m) (at_new roots p view n)) ∙ h);
  }

-- The requests.

module _ (by : Name → ℕ → Option Analysis) (s : Sources) (all_given : (n : Name) → IsGiven (by n) (entry_of (at s.served n))) (c : Client) (f : ClientFacts by s c) where
  pub with_notices : (notices : List (Name × TextFault)) → ClientFacts by s (record c { notices = notices })
  with_notices notices = record { closed = f.closed; empty = f.empty; rises = f.rises; viewed = f.viewed; accepting = f.accepting; planned = f.planned; begun = f.begun; held = f.held; current = f.current }

  prune_keeps : (ds : List Name) → Right s c (prune ds) → ClientFacts by s (asked (prune ds) s c)
  prune_keeps ds r = record {
    closed = λ l. pruned_closed c.roots c.page.view ds r.2 (f.closed l);
    empty = λ l. absurd (false≢true (sym l ∙ r.1));
    rises = kept_rises (λ row. not (has ds row.0)) c.page.view f.rises;
    viewed = λ n. subst (IsGiven (by n)) (sym (at_without_all ds c.page.view n)) (given_if (by n) (has ds n) None (at c.page.view n) tt (f.viewed n));
    accepting = λ n h. still n (filtered_from (λ k. not (has ds k)) c.page.forced n h);
    planned = subst (λ q. PlanIs q c.roots by c.page.loaded (without_all ds c.page.view) (filter (λ k. not (has ds k)) c.page.forced)) (sym r.0) tt;
    begun = f.begun;
    held = f.held;
    current = λ e. subst (λ q. PlanIsServed q (without_all ds c.page.view) s.served) (sym r.0) tt;
  }
    where
      still : (n : Name) → (not (has ds n) ≡ true) × (has c.page.forced n ≡ true) → self_accepts (without_all ds c.page.view) n ≡ true
      still n h = ap accepts_itself (at_without_all ds c.page.view n ∙ ap (λ b. if b then None else at c.page.view n) (not_true (has ds n) h.0)) ∙ f.accepting n h.1

  ask_keeps : (row : AskRow) → Right s c row → ClientFacts by s (asked row s c)
  ask_keeps out_of_turn r = f
  ask_keeps (tell n fault) r = with_notices _
  ask_keeps load r = record { closed = f.closed; empty = f.empty; rises = f.rises; viewed = f.viewed; accepting = f.accepting; planned = (r.1, λ n. tt); begun = omega arith; held = f.held; current = λ e. (λ n. tt, tt) }
  ask_keeps idle r = f
  ask_keeps (prune ds) r = prune_keeps ds r
  ask_keeps (reload path) r = record { closed = f.closed; empty = f.empty; rises = f.rises; viewed = f.viewed; accepting = f.accepting; planned = (record { is_loaded = r.0.loaded; whole = r.0.whole }, λ n. tt); begun = omega arith; held = f.held; current = λ e. (λ n. tt, tt) }
  ask_keeps (update ns ps) r = record {
    closed = f.closed;
    empty = f.empty;
    rises = f.rises;
    viewed = f.viewed;
    accepting = f.accepting;
    planned = (
      subst (IsUpdate c.roots c.page.loaded c.page.view c.page.forced) r.1 (record {
        page = record { is_loaded = r.0.loaded; whole = r.0.whole };
        inside = replaced_in c.page.view (changed s c) c.page.forced (changed_in s.served c.page.view);
        spread = replaced_spread c.page.view (changed s c) c.page.forced;
      }),
      λ n. tt,
    );
    begun = omega arith;
    held = f.held;
    current = λ e. (λ n. tt, λ n h. unchanged_served s.served c.page.view by f.viewed all_given n (unreplaced_unchanged c.page.view (changed s c) c.page.forced n (ap (λ l. has l n) r.1 ∙ h)));
  }

  staged_served : (b : Bool) (o : Option Entry) (v : Option Serving) (e : Entry) → (b ≡ true → entry_of v ≡ Some e) → IsServed o v → IsServed (if b then Some e else o) v
  staged_served true o v e g h = g refl
  staged_served false o v e g h = h

  text_keeps : (n : Name) (p : Plan) (v : Serving) → at s.served n ≡ Some v → PlanIs (Some p) c.roots by c.page.loaded c.page.view c.page.forced → (c.plan_at ≡ s.served_no → PlanIsServed (Some p) c.page.view s.served) → ClientFacts by s (fetched (text v) p n c)
  text_keeps n p v e planned current = record {
    closed = f.closed;
    empty = f.empty;
    rises = f.rises;
    viewed = f.viewed;
    accepting = f.accepting;
    planned = (planned.0, λ m. subst (IsGiven (by m)) (sym (at_with_row n entry p.staged m)) (given_at m (cases_bool (same_name n m))));
    begun = f.begun;
    held = f.held;
    current = λ t. (λ m. subst (λ o. IsServed o (at s.served m)) (sym (at_with_row n entry p.staged m)) (staged_served (same_name n m) (at p.staged m) (at s.served m) entry (λ b. ap (λ k. entry_of (at s.served k)) (sym (same_true n m b)) ∙ ap entry_of e) ((current t).0 m)), (current t).1);
  }
    where
      entry : Entry
      entry = record { version = v.version; analysis = v.analysis }

      given_at : (m : Name) → (same_name n m ≡ true) ⊎ (same_name n m ≡ false) → IsGiven (by m) (if same_name n m then Some entry else at p.staged m)
      given_at m (inl t) = subst (λ b. IsGiven (by m) (if b then Some entry else at p.staged m)) (sym t) (subst (λ k. IsGiven (by k) (Some entry)) (same_true n m t) (subst (λ o. IsGiven (by n) (entry_of o)) e (all_given n)))
      given_at m (inr t) = subst (λ b. IsGiven (by m) (if b then Some entry else at p.staged m)) (sym t) (planned.1 m)

  fetched_keeps : (n : Name) (p : Plan) → c.page.plan ≡ Some p → (o : Option Serving) → at s.served n ≡ o → (src : Option Source) → ClientFacts by s (fetched (row_served o src) p n c)
  fetched_keeps n p q (Some v) e src = text_keeps n p v e (subst (λ k. PlanIs k c.roots by c.page.loaded c.page.view c.page.forced) q f.planned) (λ t. subst (λ k. PlanIsServed k c.page.view s.served) q (f.current t))
  fetched_keeps n p q None e None = f
  fetched_keeps n p q None e (Some src) = by_verdict src.verdict
    where
      by_verdict : (verdict : Verdict) → ClientFacts by s (fetched (row_verdict verdict) p n c)
      by_verdict outstanding = f
      by_verdict good = f
      by_verdict (bad fault) = f

  fetch_keeps : (n : Name) (plan : Option Plan) → c.page.plan ≡ plan → ClientFacts by s (fetched_in plan s n c).0
  fetch_keeps n None e = f
  fetch_keeps n (Some p) e = fetched_keeps n p e (at s.served n) refl (at s.current n)

  done_keeps : (p : Plan) → PlanIs (Some p) c.roots by c.page.loaded c.page.view c.page.forced → unfetched_of c.roots p c.page.view ≡ [] → ClientFacts by s (after_applied done p c)
  done_keeps p planned e = record {
    closed = λ l. new_closed c.roots p c.page.view e c.page.loaded c.page.forced planned.0 f.closed;
    empty = λ l. absurd (false≢true (sym l));
    rises = collect_rises (λ n. new_entry (has (met_of c.roots p c.page.view) n) p c.page.view n) (sorted (met_of c.roots p c.page.view ++ names_of c.page.view)) (sorted_rises (met_of c.roots p c.page.view ++ names_of c.page.view));
    viewed = λ n. subst (IsGiven (by n)) (sym (at_new c.roots p c.page.view n)) (new_given by (has (met_of c.roots p c.page.view) n) p c.page.view n f.viewed planned.1);
    accepting = λ n h. absurd (false≢true h);
    planned = tt;
    begun = f.begun;
    held = tt;
    current = λ e. tt;
  }

  applied_keeps : (p : Plan) (table : List (Name × ℕ)) → PlanIs (Some p) c.roots by c.page.loaded c.page.view c.page.forced → (us : List Name) → unfetched_of c.roots p c.page.view ≡ us → (ds : List Name) (told kept : List (Name × ℕ)) → ClientFacts by s (after_applied (row_unfetched us (row_differing ds told kept)) p c)
  applied_keeps p table planned (n ∷ ns) e ds told kept = f
  applied_keeps p table planned [] e [] told kept = done_keeps p planned e
  applied_keeps p table planned [] e (d ∷ ds) told kept = f

  apply_keeps : (table : List (Name × ℕ)) (plan : Option Plan) → c.page.plan ≡ plan → ClientFacts by s (applied_in plan table c).0
  apply_keeps table None e = f
  apply_keeps table (Some p) e = applied_keeps p table (subst (λ k. PlanIs k c.roots by c.page.loaded c.page.view c.page.forced) e f.planned) (unfetched_of c.roots p c.page.view) refl _ _ _

  abort_keeps : (plan : Option Plan) → ClientFacts by s (aborted_in plan c).0
  abort_keeps None = f
  abort_keeps (Some p) = record { closed = f.closed; empty = f.empty; rises = f.rises; viewed = f.viewed; accepting = f.accepting; planned = tt; begun = f.begun; held = f.begun; current = λ e. tt }

  accepting_there : (o : Option Entry) (v : ℕ) → is_at_version o v ≡ true → accepts_itself o ≡ true
  accepting_there None v h = h
  accepting_there (Some e) v h = (both_true (e.version == v) _ h).1

  forced_keeps : (n : Name) (v : ℕ) → c.page.plan ≡ None → (b : Bool) → is_at_version (at c.page.view n) v ≡ b → ClientFacts by s (invalidated b n c)
  forced_keeps n v none false e = f
  forced_keeps n v none true e = record {
    closed = f.closed;
    empty = f.empty;
    rises = f.rises;
    viewed = f.viewed;
    accepting = λ m h. by_name m (or_cases (same_name n m) (has c.page.forced m) (sym (put_has n c.page.forced m) ∙ h));
    planned = subst (λ q. PlanIs q c.roots by c.page.loaded c.page.view (put_name n c.page.forced)) (sym none) tt;
    begun = f.begun;
    held = tt;
    current = f.current;
  }
    where
      by_name : (m : Name) → (same_name n m ≡ true) ⊎ (has c.page.forced m ≡ true) → self_accepts c.page.view m ≡ true
      by_name m (inl t) = ap (self_accepts c.page.view) (sym (same_true n m t)) ∙ accepting_there (at c.page.view n) v e
      by_name m (inr t) = f.accepting m t

  invalidate_keeps : (n : Name) (v : ℕ) (plan : Option Plan) → c.page.plan ≡ plan → ClientFacts by s (invalidated_in plan n v c).0
  invalidate_keeps n v None e = forced_keeps n v e (is_at_version (at c.page.view n) v) refl
  invalidate_keeps n v (Some p) e = f

  -- each request keeps the facts
  pub heard_keeps : (i : ℕ) (r : Request) → ClientFacts by s (heard i s c r).0
  heard_keeps i ask = ask_keeps (ask_row s c) (right_row s c)
  heard_keeps i (fetch n) = fetch_keeps n c.page.plan refl
  heard_keeps i (applied_as table) = apply_keeps table c.page.plan refl
  heard_keeps i aborted = abort_keeps c.page.plan
  heard_keeps i (invalidate n v) = invalidate_keeps n v c.page.plan refl
