-- A deed done to the page of a runtime.
use Rattle.std.proofs.Common.{◌≡◌, true, false, List, [], reverse, ap, sym, ◌∙◌}
use Rattle.std.specs.Prelude.{not, filter, Option, Some, None}
use Rattle.std.specs.Global.{Vec}
use Rattle.std.proofs.Math.Path.{subst}
use Rattle.std.proofs.lemmas.Bool.{false≢true}
use Rattle.std.proofs.lemmas.List.{append-nil}
use Rattle.std.proofs.lemmas.Option.{none-some}
use Rattle.hmr_types.specs.declared.value.Value.{Value}
use Rattle.output_lines.specs.declared.out_line.OutLine.{OutLine}
use Rattle.core_model.specs.Names.{Name, at, has, names_of, rising, without_all}
use Rattle.core_model.specs.Page.{Plan}
use Rattle.core_model.specs.View.{View}
use Rattle.client_model.specs.Applying.{live_of, prune, prune_instance}
use Rattle.client_model.specs.Firing.{hear_all}
use Rattle.client_model.specs.Journal.{Journal, lines_of_all}
use Rattle.client_model.specs.Runtime.{Runtime, Did, for_each}
use Rattle.module_language.specs.ModuleLanguage.{module_language}
use Rattle.page_state.specs.Live.{number_of}
use Rattle.page_state.specs.Standing as deeds
use Rattle.live_instances.specs.Orderly.{Orderly}
use Rattle.page_state.specs.Standing.{Follows, StaysElsewhere}
use Rattle.page_state.specs.declared.page.Page.{Page}
use Rattle.page_ends.proofs.Gone.{none_meant, none_stays}
use Rattle.client_plan.specs.declared.under_way.UnderWay.{UnderWay}
use Rattle.live_instances.proofs.Counting.{IsCounted}
use Rattle.live_instances.proofs.Living.{heard_counts, live_apart, live_there, pruned_counts, there_reversed}
use Rattle.page_ends.proofs.Sounding.{counted_of, unsent_of, versions_of}
use Rattle.runtime_state.specs.Becoming.{Becomes}
use Rattle.runtime_state.specs.Standing.{IsPlan, IsSound, Keeps}
use Rattle.runtime_state.specs.declared.runtime.HotRuntime.{HotRuntime}
use Rattle.runtime_state.proofs.Keeping.{still}
use Rattle.runtime_events.proofs.Leaving.{heard_live, not_left, prune_loses, was_there}
use Rattle.runtime_state.proofs.Moving.{plan_moved}
use Rattle.runtime_state.proofs.Rising.{kept_rises}

-- the runtime with another page
abbrev pub with_page : {F : Type 0} → HotRuntime F → Page F → HotRuntime F
with_page h page = record h { page = page }

pub page_kept : {F : Type 0} (r after : Runtime) (h : HotRuntime F) (page : Page F) → Keeps r h → StaysElsewhere r after → deeds.StandsFor after page → Keeps after (with_page h page)
page_kept r after h page k elsewhere s = subst (λ x. Keeps x (with_page h page)) (sym elsewhere) (record {
  format = k.format;
  named = k.named;
  roots = k.roots;
  loaded = k.loaded;
  view = k.view;
  forced = k.forced;
  plan = plan_moved r r.page.loaded r.page.forced r.page.plan after.instances after.bags after.unsent after.shelf r.stopped r.page.plan h.plan k.plan;
  page = subst (λ x. deeds.StandsFor x page) elsewhere s;
  stopped = k.stopped;
})

-- what a deed makes of a runtime, where it leaves versions counted and makes nothing live
pub deed_done : {F : Type 0} (deed : Runtime → Did) (r : Runtime) (h : HotRuntime F) (page : Page F) (tells : List OutLine) → Keeps r h → IsSound h → Follows deed h.page page [] tells
    → (IsCounted r → IsCounted (deed r).0) → ((n : Name) → number_of h.page.live n ≡ None → number_of page.live n ≡ None) → Becomes (deed r) (with_page h page) tells
deed_done deed r h page tells k s f counts stays =
    let after : Runtime = (deed r).0 in
    let stands : deeds.StandsFor after page = f.stands r k.page in
    let counted : IsCounted after = counts (counted_of r h.page k.page s.versions s.unsent) in
    record {
      sound = record {
        format = s.format;
        versions = versions_of after page stands counted;
        unsent = unsent_of after page stands counted;
        view = s.view;
        plan = s.plan;
        on_page = λ n e. stays n (s.on_page n e);
        unloaded = λ e n. stays n (s.unloaded e n);
        unnumbered = λ e. s.unnumbered (sym f.client ∙ e);
        rises = s.rises;
        whole = s.whole;
      };
      keeps = page_kept r after h page k (f.elsewhere r k.page) stands;
      lines = f.lines r k.page ∙ ap (λ c. lines_of_all c (deed r).1) (sym k.page.client ∙ sym (ap (λ x. x.client) (f.elsewhere r k.page)));
    }

-- each live instance heard the event
pub all_heard : {F : Type 0} (event : Name) (value : Value) (r : Runtime) (h : HotRuntime F) (page : Page F) (tells : List OutLine) → Keeps r h → IsSound h
    → Follows (hear_all module_language event value) h.page page [] tells → Becomes (hear_all module_language event value r) (with_page h page) tells
all_heard event value r h page tells k s f =
    let orderly : Orderly r.instances = k.page.instances.orderly in
    deed_done (hear_all module_language event value) r h page tells k s f
    (λ c. heard_counts module_language event value (reverse (live_of (λ n. true) r)) r (there_reversed r (live_of (λ n. true) r) (live_there (λ n. true) r orderly)) orderly c)
    (λ n e. sym ((f.stands r k.page).instances.by_name n) ∙ heard_live event value r n ∙ k.page.instances.by_name n ∙ e)

-- with no plan under way a runtime keeps none, whatever else it is
still_none : (a b : Runtime) (o : Option Plan) (u : Option UnderWay) → o ≡ None → IsPlan a o u → IsPlan b o u
still_none a b None None e i = tt
still_none a b None (Some u) e i = i
still_none a b (Some p) u e i = absurd (none-some p (sym e))

-- modules left the page, and their instances were pruned
pub all_pruned : {F : Type 0} (names : List Name) (r : Runtime) (h : HotRuntime F) (page : Page F) (view : View) (forced : Vec Name) (tells : List OutLine) → Keeps r h → IsSound h → r.page.plan ≡ None
    → Follows (λ r. for_each (prune_instance module_language) (live_of (has names) r) r) h.page page [] tells → view ≡ without_all names h.view → forced.items ≡ filter (λ n. not (has names n)) h.forced.items
    → Becomes (prune module_language names r) (record h { page = page; view = view; whole = false; forced = forced }) tells
all_pruned names r h page view forced tells k s none f viewed dropped =
    let orderly : Orderly r.instances = k.page.instances.orderly in
    let stays = λ (n : Name) (e : number_of h.page.live n ≡ None). none_stays (prune_instance module_language) (has names) h.page page [] tells f (λ i t q. prune_loses i q) r k.page n e in
    let after : Runtime = (for_each (prune_instance module_language) (live_of (has names) r) r).0 in
    let told : Journal = (for_each (prune_instance module_language) (live_of (has names) r) r).1 in
    let did : Becomes (for_each (prune_instance module_language) (live_of (has names) r) r) (with_page h page) tells =
    deed_done (λ r. for_each (prune_instance module_language) (live_of (has names) r) r) r h page tells k s f
    (λ c. pruned_counts module_language (live_of (has names) r) r (live_apart (has names) r orderly) (live_there (has names) r orderly) orderly c)
    stays in
    let still_page : after.page ≡ r.page = ap (λ x. x.page) (f.elsewhere r k.page) in
    record {
      sound = record {
        format = did.sound.format;
        versions = did.sound.versions;
        unsent = did.sound.unsent;
        view = λ n e t. s.view n e (was_there names h.view n e (ap (λ (v : View). at v n) (sym viewed) ∙ t));
        plan = did.sound.plan;
        on_page = λ n t. not_left names h.view n (ap (λ (v : View). at v n) (sym viewed) ∙ t)
            (λ is. none_meant (prune_instance module_language) (has names) h.page page [] tells f (λ i u q. prune_loses i q) r k.page n is)
            (λ none. stays n (s.on_page n none));
        unloaded = did.sound.unloaded;
        unnumbered = did.sound.unnumbered;
        rises = ap (λ (v : View). rising (names_of v)) viewed ∙ kept_rises (λ row. not (has names row.0)) h.view s.rises;
        whole = λ e. absurd (false≢true e);
      };
      keeps = record {
        format = did.keeps.format;
        named = did.keeps.named;
        roots = did.keeps.roots;
        loaded = did.keeps.loaded;
        view = ap (without_all names) did.keeps.view ∙ sym viewed;
        forced = ap (filter (λ n. not (has names n))) did.keeps.forced ∙ sym dropped;
        plan = still_none after (prune module_language names r).0 after.page.plan h.plan (ap (λ x. x.plan) still_page ∙ none) did.keeps.plan;
        page = still after (prune module_language names r).0.page after.texts after.pairs after.cause page did.keeps.page;
        stopped = did.keeps.stopped;
      };
      lines = did.lines ∙ ap (lines_of_all after.client) (sym (append-nil told));
    }
