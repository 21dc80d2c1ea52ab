-- What an Applied makes of what is kept.
use Rattle.std.proofs.Common.{◌≡◌, ℕ, Bool, true, false, List, [], ◌∷◌, ◌++◌, refl, ap, sym, ◌∙◌}
use Rattle.std.specs.Prelude.{filter, Option, Some, None, IfSome, not, if◌then◌else◌}
use Rattle.std.specs.Cmp.Lexicographic.{slice_cmp}
use Rattle.std.specs.List.Sorted.{IsStrictlySortedBy}
use Rattle.std.specs.Ordering.{nat_cmp}
use Rattle.std.proofs.lemmas.Bool.{false≢true}
use Rattle.std.proofs.Math.Path.{subst}
use Rattle.hmr_types.specs.declared.words.PlanKind.{PlanKind}
use Rattle.hmr_types.specs.declared.words.PlanKind.TheVariants.{Load, Reload, Update}
use Rattle.core_model.specs.Names.{Name, same_name, has, at, collect, names_of, sorted, with_entry}
use Rattle.core_model.specs.Page.{Plan, kept_or_staged, met_of, new_entry, new_view, unfetched_of, unmet_entry}
use Rattle.core_model.specs.Sources.{Sources}
use Rattle.core_model.specs.Spread.{AreIn}
use Rattle.core_model.specs.View.{View, Entry, differs, dropped_of, is_in, table_of}
use Rattle.core_model.specs.Client.{Client}
use Rattle.core_model.specs.Requests.{AppliedRow, after_applied, applied_as, applied_in, applied_reply, applied_row, differing, done, heard, mismatch, row_differing, row_unfetched, unfetched}
use Rattle.core_model.proofs.Listing.{none_in}
use Rattle.page_plan.specs.Applied.{IsApplied, IsDone}
use Rattle.page_plan.specs.declared.apply.Applied.{Applied}
use Rattle.page_plan.specs.declared.apply.Applied.TheVariants as answer
use Rattle.page_plan.specs.Plans.{IsSamePlan}
use Rattle.page_plan.specs.Renewals.{IsClosed}
use Rattle.page_plan.proofs.Renewals.{made_closed, made_rises as new_rises}
use Rattle.page_plan.proofs.Same.{row_same, view_same}
use Rattle.client_queue.specs.Queue.{Queue, is_marked, knows}
use Rattle.page_marks.specs.Marks.{AreRenewed, IsGrown}
use Rattle.page_marks.proofs.Renewing.{known_made, marks_made}
use Rattle.client_records.specs.Inside.{AreCounted, AreFetched, IsCounted}
use Rattle.client_records.specs.Made.{HasMade}
use Rattle.client_records.specs.Record.{IsPlan, IsRecord, Kept}
use Rattle.client_records.proofs.Fetching.{counted_step}

-- The view that a plan makes.

-- its modules rise
pub made_rises : (roots : List Name) (p : Plan) (view made : View) → made ≡ new_view roots p view → IsStrictlySortedBy (slice_cmp nat_cmp) (names_of made)
made_rises roots p view made e = subst (λ (v : View). IsStrictlySortedBy (slice_cmp nat_cmp) (names_of v)) (sym e) (new_rises roots p view)

counted_at : (view : View) → AreCounted view → AreFetched view
counted_at [] h n = tt
counted_at (row ∷ rows) h n = counted_step row.1 (at rows n) (same_name row.0 n) h.0 (counted_at rows h.1 n)

entry_step : (n : Name) (o : Option Entry) (rows : View) → IfSome o IsCounted → AreCounted rows → AreCounted (with_entry n o rows)
entry_step n None rows p h = h
entry_step n (Some e) rows p h = (p, h)

collected_counted : (get : Name → Option Entry) → ((n : Name) → IfSome (get n) IsCounted) → (names : List Name) → AreCounted (collect get names)
collected_counted get f [] = tt
collected_counted get f (n ∷ names) = entry_step n (get n) (collect get names) (f n) (collected_counted get f names)

either_counted : (kept staged : Option Entry) → IfSome kept IsCounted → IfSome staged IsCounted → IfSome (kept_or_staged Update false kept staged) IsCounted
either_counted None staged k s = s
either_counted (Some e) staged k s = k

entry_counted : (kind : PlanKind) (met replaced : Bool) (kept staged : Option Entry) → IfSome kept IsCounted → IfSome staged IsCounted → IfSome (if met then kept_or_staged kind replaced kept staged else unmet_entry kind kept) IsCounted
entry_counted Load true replaced kept staged k s = s
entry_counted Load false replaced kept staged k s = tt
entry_counted Reload true replaced kept staged k s = s
entry_counted Reload false replaced kept staged k s = tt
entry_counted Update true true kept staged k s = s
entry_counted Update true false kept staged k s = either_counted kept staged k s
entry_counted Update false replaced kept staged k s = k

-- and their versions are those of counted edits
pub made_counted : (roots : List Name) (p : Plan) (view made : View) → made ≡ new_view roots p view → AreCounted view → AreFetched p.staged → AreCounted made
made_counted roots p view made e h s = subst AreCounted (sym e) (collected_counted (λ n. new_entry (has (met_of roots p view) n) p view n)
    (λ n. entry_counted p.kind (has (met_of roots p view) n) (has p.replaced n) (at view n) (at p.staged n) (counted_at view h n) (s n)) (sorted (met_of roots p view ++ names_of view)))

-- where all fits nothing is left to be fetched

abbrev is_done : AppliedRow → Bool
is_done (unfetched n) = false
is_done (mismatch n told kept) = false
is_done done = true

all_fetched : (ns : List Name) (row : AppliedRow) → row_unfetched ns row ≡ done → ns ≡ []
all_fetched [] row h = refl
all_fetched (n ∷ ns) row h = absurd (false≢true (ap is_done h))

-- so nothing is missing from the page
pub closed_made : (roots : List Name) (p : Plan) (view : View) (told : List (Name × ℕ)) (made : View) → IsDone roots p view told made → IsClosed roots made
closed_made roots p view told made d = subst (IsClosed roots) (sym d.whole)
    (made_closed roots p view (all_fetched (unfetched_of roots p view) (row_differing (differing told (table_of (new_view roots p view))) told (table_of (new_view roots p view))) d.row))

-- What is kept.

-- where only more names are known the record stands
pub grown_stands : (s : Sources) (c : Client) (k : Kept) (q : Queue) → IsRecord s c k → IsGrown k.queue q → IsRecord s c (record k { queue = q })
grown_stands s c k q h g = record {
  roots = h.roots;
  batches = h.batches;
  loaded = h.loaded;
  view = h.view;
  forced = ap (λ (p : Queue). p.forced) g.kept ∙ h.forced;
  plan = h.plan;
  plan_at = h.plan_at;
  held = ap (λ (p : Queue). p.held) g.kept ∙ h.held;
  notices = λ m. ap (λ (p : Queue). at p.notices m) g.kept ∙ h.notices m;
  dropped = h.dropped;
  marks = λ m. g.marks m ∙ h.marks m;
}

-- the page has the modules that were made, and each of them is known
pub record IsTaken (s : Sources) (k : Kept) (made : View) (dropped : List Name) (queue : Queue) : Type 0 where
  pub page : HasMade s made k (record k { loaded = true; view = made; queue = queue; plan = None; dropped = dropped })
  pub known : (n : Name) → is_in made n ≡ true → knows queue n ≡ true

-- once the names of both pages are entered and marked, no name is forced and the hold is released, it has
pub taken : (s : Sources) (k : Kept) (made : View) (names dropped : List Name) (mid new unforced released : Queue) → names ≡ names_of made ++ filter (λ n. not (is_in made n)) (names_of k.view) → dropped ≡ dropped_of made k.roots
    → ((n : Name) → is_marked k.queue n ≡ true → is_in k.view n ≡ true) → IsGrown k.queue mid → ((n : Name) → has names n ≡ true → knows mid n ≡ true) → AreRenewed names made s mid new
    → unforced ≡ record new { forced = [] } → released ≡ record unforced { held = None } → IsTaken s k made dropped released
taken s k made names dropped mid new unforced released both d within grown there renewed u r = record {
  page = record {
    kept = ap (λ l. record k { loaded = true; view = made; queue = released; plan = None; dropped = l }) d;
    queue = all ∙ ap (λ l. record k.queue { known = l; forced = []; held = None }) (sym (ap (λ (q : Queue). q.known) all));
    marks = λ n. ap (λ (q : Queue). is_marked q n) all ∙ marks_made k.view made s names k.queue mid new both within grown there renewed n;
  };
  known = λ n h. ap (λ (q : Queue). knows q n) all ∙ known_made k.view made s names k.queue mid new both there renewed n h;
}
  where
    same : new ≡ record k.queue { known = new.known }
    same = renewed.kept ∙ ap (λ (q : Queue). record q { known = new.known }) grown.kept

    all : released ≡ record k.queue { known = new.known; forced = []; held = None }
    all = r ∙ ap (λ (q : Queue). record q { held = None }) u ∙ ap (λ (q : Queue). record q { forced = []; held = None }) same

-- nothing is forced on it
pub none_forced : (s : Sources) (made : View) (k new : Kept) → HasMade s made k new → AreIn new.queue.forced made
none_forced s made k new h = subst (λ l. AreIn l made) (sym (ap (λ (q : Queue). q.forced) h.queue)) (λ n i. none_in n i)

-- The answer of the plan, where the roots are those that are kept.

pub done_from : (roots kept : List Name) (p : Plan) (view : View) (told : List (Name × ℕ)) (a : Applied) (made : View) → roots ≡ kept → a ≡ answer.Done made → IsApplied roots p view told a → IsDone kept p view told made
done_from roots kept p view told a made e is h = subst (λ l. IsDone l p view told made) e (subst (IsApplied roots p view told) is h)

pub unfetched_from : (roots kept : List Name) (p : Plan) (view : View) (told : List (Name × ℕ)) (a : Applied) (n : Name) → roots ≡ kept → a ≡ answer.Unfetched n → IsApplied roots p view told a → applied_row kept p view told ≡ unfetched n
unfetched_from roots kept p view told a n e is h = subst (λ l. applied_row l p view told ≡ unfetched n) e (subst (IsApplied roots p view told) is h)

pub mismatch_from : (roots kept : List Name) (p : Plan) (view : View) (told : List (Name × ℕ)) (a : Applied) (n : Name) (v w : ℕ) → roots ≡ kept → a ≡ answer.Mismatch n v w → IsApplied roots p view told a → applied_row kept p view told ≡ mismatch n v w
mismatch_from roots kept p view told a n v w e is h = subst (λ l. applied_row l p view told ≡ mismatch n v w) e (subst (IsApplied roots p view told) is h)

-- The record of the client that applied its plan.

module _ (s : Sources) (c : Client) (k new : Kept) (p old : Plan) (told : List (Name × ℕ)) (made : View) (h : IsRecord s c k) (same : IsSamePlan p old) where
  -- the row of what is kept is the definition's
  pub kept_row : applied_row k.roots old k.view told ≡ applied_row c.roots p c.page.view told
  kept_row = ap (λ l. applied_row l old k.view told) h.roots ∙ ap (λ (v : View). applied_row c.roots old v told) h.view ∙ sym (row_same c.roots p old c.page.view told same)

  made_is : IsDone k.roots old k.view told made → made ≡ new_view c.roots p c.page.view
  made_is d = d.whole ∙ ap (λ l. new_view l old k.view) h.roots ∙ ap (λ (v : View). new_view c.roots old v) h.view ∙ sym (view_same c.roots p old c.page.view same)

  done_stands : IsDone k.roots old k.view told made → HasMade s made k new → IsRecord s (after_applied done p c) new
  done_stands d m = record {
    roots = ap (λ (x : Kept). x.roots) m.kept ∙ h.roots;
    batches = ap (λ (x : Kept). x.batches) m.kept ∙ h.batches;
    loaded = ap (λ (x : Kept). x.loaded) m.kept;
    view = ap (λ (x : Kept). x.view) m.kept ∙ made_is d;
    forced = ap (λ (q : Queue). q.forced) m.queue;
    plan = subst (IsPlan None) (sym (ap (λ (x : Kept). x.plan) m.kept)) tt;
    plan_at = ap (λ (x : Kept). x.plan_at) m.kept ∙ h.plan_at;
    held = ap (λ (q : Queue). q.held) m.queue;
    notices = λ n. ap (λ (q : Queue). at q.notices n) m.queue ∙ h.notices n;
    dropped = ap (λ (x : Kept). x.dropped) m.kept ∙ ap (dropped_of made) h.roots ∙ ap (λ (v : View). dropped_of v c.roots) (made_is d);
    marks = λ n. m.marks n ∙ ap (λ (v : View). differs (at v n) (at s.served n)) (made_is d);
  }

  pub applied_stands : IsDone k.roots old k.view told made → HasMade s made k new → IsRecord s (after_applied (applied_row c.roots p c.page.view told) p c) new
  applied_stands d m = subst (λ row. IsRecord s (after_applied row p c) new) (sym d.row ∙ kept_row) (done_stands d m)

-- what an Applied makes of a record, where the plans are the same
pub applied_at : (P : Client → Kept → Type 0) (i : ℕ) (s : Sources) (c : Client) (k new : Kept) (old : Plan) (told : List (Name × ℕ)) → IsRecord s c k → k.plan ≡ Some old
    → ((p : Plan) → IsSamePlan p old → P (after_applied (applied_row c.roots p c.page.view told) p c) new) → P (heard i s c (applied_as told)).0 new
applied_at P i s c k new old told h e f = go c.page.plan (subst (IsPlan c.page.plan) e h.plan)
  where
    go : (o : Option Plan) → IsPlan o (Some old) → P (applied_in o told c).0 new
    go None m = absurd m
    go (Some p) m = f p m

-- where all fits it is that of the plan's page
pub done_so : (i : ℕ) (s : Sources) (c : Client) (k new : Kept) (old : Plan) (told : List (Name × ℕ)) (made : View) → IsRecord s c k → k.plan ≡ Some old → IsDone k.roots old k.view told made → HasMade s made k new → IsRecord s (heard i s c (applied_as told)).0 new
done_so i s c k new old told made h e d m = applied_at (IsRecord s) i s c k new old told h e (λ p same. applied_stands s c k new p old told made h same d m)

-- and where a row is refused it is as it was
pub refused_so : (i : ℕ) (s : Sources) (c : Client) (k : Kept) (old : Plan) (told : List (Name × ℕ)) (row : AppliedRow) → IsRecord s c k → k.plan ≡ Some old → applied_row k.roots old k.view told ≡ row → ((p : Plan) → after_applied row p c ≡ c) → IsRecord s (heard i s c (applied_as told)).0 k
refused_so i s c k old told row h e r f = applied_at (IsRecord s) i s c k k old told h e (λ p same. subst (λ d. IsRecord s d k) (sym (ap (λ x. after_applied x p c) (sym (kept_row s c k k p old told k.view h same) ∙ r) ∙ f p)) h)

-- the reply is that of the row
pub applied_answers : (i : ℕ) (s : Sources) (c : Client) (k : Kept) (old : Plan) (told : List (Name × ℕ)) (row : AppliedRow) → IsRecord s c k → k.plan ≡ Some old → applied_row k.roots old k.view told ≡ row → applied_reply row ≡ (heard i s c (applied_as told)).1
applied_answers i s c k old told row h e r = go c.page.plan (subst (IsPlan c.page.plan) e h.plan)
  where
    go : (o : Option Plan) → IsPlan o (Some old) → applied_reply row ≡ (applied_in o told c).1
    go None m = absurd m
    go (Some p) m = ap applied_reply (sym r ∙ kept_row s c k k p old told k.view h m)
