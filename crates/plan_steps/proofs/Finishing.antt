-- A plan is applied: what the code took out of its plan is the plan's, and what becomes of the page is what
-- the definitions make of the client.
use Rattle.std.proofs.Common.{◌≡◌, ◌≤◌, ◌+◌, Bool, true, false, List, [], ◌∷◌, ◌++◌, length, refl, ap, sym, ◌∙◌}
use Rattle.std.specs.Prelude.{◌==◌, Option, Some, None, if◌then◌else◌}
use Rattle.std.specs.Global.{Vec}
use Rattle.std.proofs.Math.Path.{subst}
use Rattle.std.proofs.lemmas.Bool.{eq-eqb, false≢true, ltb-false}
use Rattle.std.proofs.lemmas.Option.{none-some}
use Prim.{⊥}
use Rattle.hmr_types.specs.declared.limits.TheConstants.{INSTANCES}
use Rattle.output_lines.specs.declared.out_line.OutLine.{OutLine}
use Rattle.output_lines.specs.declared.out_line.OutLine.TheVariants as line
use Rattle.core_model.specs.Names.{Name, at, has, names_of, rising}
use Rattle.core_model.specs.Page.{Plan, applied, new_view}
use Rattle.core_model.specs.View.{View}
use Rattle.client_model.specs.Answering.{apply_in}
use Rattle.client_model.specs.Applying.{apply}
use Rattle.client_model.specs.Journal as journal
use Rattle.client_model.specs.Journal.{lines_of_all}
use Rattle.client_model.specs.Linking.{link_cause, new_names, next_needed}
use Rattle.client_model.specs.Requesting.{abort_message, ask_or_invalidate, carry_on, fetch_or_finish, hello, request, request_by}
use Rattle.client_model.specs.Runtime as model
use Rattle.client_model.specs.Runtime.{Runtime, Did, Invalidation}
use Rattle.module_language.specs.ModuleLanguage.{module_language}
use Rattle.page_state.specs.declared.page.Page.{Page}
use Rattle.page_state.specs.Live.{number_of}
use Rattle.page_state.proofs.Following.{lines_then}
use Rattle.hmr_types.specs.declared.words.PlanKind.{PlanKind}
use Rattle.plan_changes.specs.Changing.{HasChanged, page_done}
use Rattle.plan_changes.specs.Finding.{IsFound, IsFoundFor, IsPageOf, IsToApply}
use Rattle.live_instances.specs.Counted.{AreCountedIn}
use Rattle.client_plan.specs.Planned.{AreCounted, IsPlanned}
use Rattle.client_plan.specs.UnderWay.{IsNext, IsReady, IsUnderWay, is_applied_told}
use Rattle.client_plan.specs.Whole.{IsWhole}
use Rattle.plan_changes.specs.declared.finding.Found.{Found}
use Rattle.client_plan.specs.declared.under_way.Next.{Next}
use Rattle.client_plan.specs.declared.under_way.Next.TheVariants.{Fetch, Finish}
use Rattle.client_plan.specs.declared.under_way.Ready.{Ready}
use Rattle.client_plan.specs.declared.under_way.UnderWay.{UnderWay}
use Rattle.client_plan.proofs.Paging.{entries_counted, new_paged, new_there, page_counted}
use Rattle.plan_steps.specs.Applying.{IsApplied, IsTurned}
use Rattle.runtime_state.specs.Becoming.{Becomes}
use Rattle.runtime_state.specs.Standing.{HasRoom, count_of, IsPlan, IsPlannedWell, IsSound, Keeps}
use Rattle.runtime_state.specs.declared.runtime.HotRuntime.{HotRuntime}
use Rattle.runtime_state.proofs.Keeping.{still}
use Rattle.runtime_state.proofs.Rising.{new_rises}

-- A client that tells that a plan is applied.

aborted_not : (cause : model.Cause) → is_applied_told (abort_message cause) ≡ true → false ≡ true
aborted_not (model.missing n) e = e
aborted_not (model.broken n) e = e
aborted_not (model.unlinked n m x) e = e

asked_not : (unsent : List Invalidation) → is_applied_told (ask_or_invalidate unsent) ≡ true → false ≡ true
asked_not [] e = e
asked_not (i ∷ unsent) e = e

-- has a number
has_client : (r : Runtime) → is_applied_told (request module_language r) ≡ true → r.client ≡ 0 → ⊥
has_client r t zero = false≢true (ap (λ b. is_applied_told (if b then hello r else request_by r.page.plan module_language r)) (sym (eq-eqb r.client 0 zero)) ∙ t)

by_plan : (r : Runtime) → is_applied_told (request module_language r) ≡ true → is_applied_told (request_by r.page.plan module_language r) ≡ true
by_plan r t = by (r.client == 0) t
  where
    by : (b : Bool) → is_applied_told (if b then hello r else request_by r.page.plan module_language r) ≡ true → is_applied_told (request_by r.page.plan module_language r) ≡ true
    by true e = absurd (false≢true e)
    by false e = e

-- has a plan
has_plan : (r : Runtime) → is_applied_told (request module_language r) ≡ true → r.page.plan ≡ None → ⊥
has_plan r t none = false≢true (asked_not r.unsent (subst (λ o. is_applied_told (request_by o module_language r) ≡ true) none (by_plan r t)))

-- and needs nothing more
needs_none : (r : Runtime) (p : Plan) → is_applied_told (request module_language r) ≡ true → r.page.plan ≡ Some p → next_needed p r ≡ None
needs_none r p t is = by_cause r.cause (subst (λ o. is_applied_told (request_by o module_language r) ≡ true) is (by_plan r t))
  where
    by_need : (o : Option Name) → is_applied_told (fetch_or_finish o (link_cause module_language p r) p r) ≡ true → o ≡ None
    by_need None e = refl
    by_need (Some n) e = absurd (false≢true e)

    by_cause : (o : Option model.Cause) → is_applied_told (carry_on o module_language p r) ≡ true → next_needed p r ≡ None
    by_cause (Some cause) e = absurd (false≢true (aborted_not cause e))
    by_cause None e = by_need (next_needed p r) e

-- Its plan is the code's.

-- there is room for it
pub room_is : {F : Type 0} (h : HotRuntime F) → HasRoom h → length h.page.instances.items + count_of h.plan ≤ INSTANCES
room_is h room = ltb-false INSTANCES (length h.page.instances.items + count_of h.plan) room

-- so all is fetched for it
all_fetched : {F : Type 0} (P : Did → Type 0) (r : Runtime) (h : HotRuntime F) → Keeps r h → IsSound h → is_applied_told (request module_language r) ≡ true
    → ((p : Plan) (u : UnderWay) (ready : Ready) → r.page.plan ≡ Some p → h.plan ≡ Some u → u.next ≡ Finish ready → IsUnderWay r p u → IsPlanned h.loaded u → P (apply module_language p r))
    → P (apply_in r.page.plan module_language r)
all_fetched P r h k s t does = by r.page.plan h.plan refl refl k.plan s.plan
  where
    ends : (p : Plan) (u : UnderWay) (next : Next) → r.page.plan ≡ Some p → h.plan ≡ Some u → u.next ≡ next → IsUnderWay r p u → IsPlanned h.loaded u → P (apply module_language p r)
    ends p u (Fetch n) e f is i planned = absurd (none-some n (sym (needs_none r p t e) ∙ subst (IsNext r p) is i.next))
    ends p u (Finish ready) e f is i planned = does p u ready e f is i planned

    by : (o : Option Plan) (v : Option UnderWay) → r.page.plan ≡ o → h.plan ≡ v → IsPlan r o v → IsPlannedWell h.loaded v → P (apply_in o module_language r)
    by None v e f i planned = absurd (has_plan r t e)
    by (Some p) None e f i planned = absurd i
    by (Some p) (Some u) e f i planned = ends p u u.next e f refl i planned

-- the page is the client's
page_of : {F : Type 0} (r : Runtime) (h : HotRuntime F) (forced : List Name) → Keeps r h → IsSound h → forced ≡ h.forced.items → IsPageOf r h.page h.view forced
page_of r h forced k s same = record {
  stands = k.page;
  viewed = k.view;
  forcing = k.forced ∙ sym same;
  on_page = s.on_page;
  unloaded = λ e. s.unloaded (sym k.loaded ∙ e);
}

-- what the code has of its plan
to_apply : (r : Runtime) (p : Plan) (u : UnderWay) (ready : Ready) (loaded : Bool) → r.page.loaded ≡ loaded → IsUnderWay r p u → IsPlanned loaded u → u.next ≡ Finish ready → IsToApply r p u.plan ready u.trees.entries u.pairs.items
to_apply r p u ready loaded same i s is = record {
  plan = i.plan;
  ends = subst (IsNext r p) is i.next;
  texts = i.texts;
  pairs = i.pairs;
  loads = λ load. same ∙ s.loads load;
}

-- What becomes of it.

-- the code's once the page is the plan's
abbrev pub turned : {F : Type 0} → HotRuntime F → Page F → View → Bool → Vec Name → Option UnderWay → HotRuntime F
turned h page view whole forced plan = record h { page = page; view = view; loaded = true; whole = whole; forced = forced; plan = plan }

module _ {F : Type 0} (r : Runtime) (p : Plan) (u : UnderWay) (ready : Ready) (h : HotRuntime F) (k : Keeps r h) (s : IsSound h) (e : r.page.plan ≡ Some p) (is : u.next ≡ Finish ready) (i : IsUnderWay r p u) (planned : IsPlanned h.loaded u)
    (numbered : r.client ≡ 0 → ⊥) where
  ends : IsReady r p ready
  ends = subst (IsNext r p) is i.next

  finished : (page : Page F) (view : View) (whole : Bool) (forced : Vec Name) (began tells : List OutLine) (kind : PlanKind) → HasChanged (page_done p.kind p r) r p h.page page [] began
      → view ≡ new_view r.roots p r.page.view → whole ≡ ready.whole → forced.items ≡ [] → kind ≡ u.plan.kind → tells ≡ began ++ line.Applied page.client kind ∷ []
      → Becomes (apply module_language p r) (turned h page view whole forced None) tells
  finished page view whole forced began tells kind changed viewed known none same told =
      record { sound = sound; keeps = keeps; lines = told ∙ lines }
    where
      old : AreCounted r.page.view
      old = subst AreCounted (sym k.view) s.view

      entries : AreCountedIn p r.page.view
      entries = entries_counted p u.plan r.page.view i.plan old planned.staged

      keeps : Keeps (apply module_language p r).0 (turned h page view whole forced None)
      keeps = record {
        format = ap (λ z. z.format) changed.elsewhere ∙ k.format;
        named = ap (λ z. z.named) changed.elsewhere ∙ k.named;
        roots = ap (λ z. z.roots) changed.elsewhere ∙ k.roots;
        loaded = refl;
        view = ap (λ z. new_view z.roots p z.page.view) changed.elsewhere ∙ sym viewed;
        forced = sym none;
        plan = tt;
        page = still (page_done p.kind p r).0 (applied (page_done p.kind p r).0.roots p (page_done p.kind p r).0.page) [] [] None page changed.stands;
        stopped = ap (λ z. z.stopped) changed.elsewhere ∙ k.stopped;
      }

      same_client : h.page.client ≡ (page_done p.kind p r).0.client
      same_client = sym changed.client ∙ sym changed.stands.client

      lines : began ++ line.Applied page.client kind ∷ [] ≡ lines_of_all (page_done p.kind p r).0.client (apply module_language p r).1
      lines = ap (λ ls. ls ++ line.Applied page.client kind ∷ []) changed.lines
          ∙ ap (λ c. lines_of_all c (page_done p.kind p r).1 ++ line.Applied page.client kind ∷ []) same_client
          ∙ ap (λ c. lines_of_all (page_done p.kind p r).0.client (page_done p.kind p r).1 ++ line.Applied c kind ∷ []) (sym changed.stands.client)
          ∙ ap (λ w. lines_of_all (page_done p.kind p r).0.client (page_done p.kind p r).1 ++ line.Applied (page_done p.kind p r).0.client w ∷ []) (same ∙ i.plan.kind)
          ∙ sym (lines_then (page_done p.kind p r).0.client (page_done p.kind p r).1 (journal.told (line.Applied (page_done p.kind p r).0.client p.kind) ∷ []))

      on_page : (n : Name) → at view n ≡ None → number_of page.live n ≡ None
      on_page n gone = by (has (new_names p r) n) refl
        where
          gone_new : at (new_view r.roots p r.page.view) n ≡ None
          gone_new = ap (λ (v : View). at v n) (sym viewed) ∙ gone

          by : (b : Bool) → has (new_names p r) n ≡ b → number_of page.live n ≡ None
          by true f = absurd (false≢true (new_paged p r n (new_there p r ends.none_needed n f) f gone_new))
          by false f = changed.live n f gone_new

      sound : IsSound (turned h page view whole forced None)
      sound = record {
        format = s.format;
        versions = (changed.counted entries (record { versions = s.versions; unsent = s.unsent })).versions;
        unsent = (changed.counted entries (record { versions = s.versions; unsent = s.unsent })).unsent;
        view = subst AreCounted (sym viewed) (page_counted r.roots p r.page.view old entries);
        plan = tt;
        on_page = on_page;
        unloaded = λ f. absurd (false≢true (sym f));
        unnumbered = λ f. absurd (numbered (k.page.client ∙ sym changed.client ∙ f));
        rises = ap (λ (v : View). rising (names_of v)) viewed ∙ new_rises module_language r.roots p r.page.view;
        whole = λ f. subst (λ roots. IsWhole roots view) k.roots (subst (IsWhole r.roots) (sym viewed) (ends.whole (sym known ∙ f)));
      }

  -- by what was found before
  found_becomes : (found : Found) (page : Page F) (view : View) (forced : List Name) (gone : Vec Name) (left : Option UnderWay) (tells : List OutLine) → IsTurned u h.page h.view view forced (Some found) → forced ≡ h.forced.items
      → (IsFound r p h.page found → IsApplied r p found.kind h.page page tells) → gone.items ≡ [] → left ≡ None → Becomes (apply module_language p r) (turned h page view found.whole gone left) tells
  found_becomes found page view forced gone left tells turns same applies none empty =
      let known : IsFoundFor r p h.page u.plan.kind ready found = turns.found r p ready (page_of r h forced k s same) is (to_apply r p u ready h.loaded k.loaded i planned is) in
      let applied : IsApplied r p found.kind h.page page tells = applies known.found in
      subst (λ o. Becomes (apply module_language p r) (turned h page view found.whole gone o) tells) (sym empty)
      (finished page view found.whole gone applied.began tells found.kind applied.page (turns.view r p ready k.view s.rises is ends i.plan) known.whole none known.kind applied.lines)

  -- something was found
  found_some : (view : View) (forced : List Name) → IsTurned u h.page h.view view forced None → forced ≡ h.forced.items → {X : Type 0} → X
  found_some view forced turns same = absurd (turns.found r p ready (page_of r h forced k s same) is (to_apply r p u ready h.loaded k.loaded i planned is))

-- a plan that is applied, by what was found
pub found_applied : {F : Type 0} (r : Runtime) (h : HotRuntime F) (found : Found) (page : Page F) (view : View) (forced : List Name) (gone : Vec Name) (left : Option UnderWay) (tells : List OutLine) → Keeps r h → IsSound h
    → is_applied_told (request module_language r) ≡ true → ((u : UnderWay) → h.plan ≡ Some u → IsTurned u h.page h.view view forced (Some found)) → forced ≡ h.forced.items
    → ((p : Plan) → IsFound r p h.page found → IsApplied r p found.kind h.page page tells) → gone.items ≡ [] → left ≡ None → Becomes (apply_in r.page.plan module_language r) (turned h page view found.whole gone left) tells
found_applied r h found page view forced gone left tells k s t turns same applies none empty =
    all_fetched (λ did. Becomes did (turned h page view found.whole gone left) tells) r h k s t
    (λ p u ready e f is i planned. found_becomes r p u ready h k s e is i planned (has_client r t) found page view forced gone left tells (turns u f) same (applies p) none empty)

-- and it can't be that nothing was found
pub none_found : {F : Type 0} (r : Runtime) (h : HotRuntime F) (view : View) (forced : List Name) → Keeps r h → IsSound h → is_applied_told (request module_language r) ≡ true
    → ((u : UnderWay) → h.plan ≡ Some u → IsTurned u h.page h.view view forced None) → forced ≡ h.forced.items → {X : Type 0} → X
none_found r h view forced k s t turns same {X} =
    all_fetched (λ did. X) r h k s t (λ p u ready e f is i planned. found_some r p u ready h k s e is i planned (has_client r t) view forced (turns u f) same)
