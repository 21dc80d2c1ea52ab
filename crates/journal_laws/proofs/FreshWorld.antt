-- A caught-up client of the world without stale edges holds the values of a fresh load.
use Rattle.std.proofs.Common.{◌≡◌, ℕ, Bool, true, false, List, [], refl, ap, sym, ◌∙◌, Contains}
use Rattle.std.specs.Prelude.{◌↔◌, not, Option, Some, None, is_some, IfSome, if◌then◌else◌}
use Rattle.std.proofs.Math.Path.{subst}
use Rattle.std.proofs.lemmas.Option.{same_Some}
use Rattle.core_model.specs.Names.{Name, has, at}
use Rattle.core_model.specs.Sources.{Text, Serving}
use Rattle.core_model.specs.FreshLoad.{Served, reached_by, missing_of}
use Rattle.core_model.specs.View.{Entry, is_in}
use Rattle.core_model.specs.Client.{Client}
use Rattle.core_model.specs.Core.{Core, client_at}
use Rattle.core_model.proofs.Naming.{filtered_in}
use Rattle.core_laws.specs.Given.{entry_of}
use Rattle.core_laws.specs.Fresh.{IsUpToDate, IsFreshLoad}
use Rattle.client_model.specs.Language.{Language, BindsImports}
use Rattle.client_model.specs.Instance.{Instance, live_at}
use Rattle.client_model.specs.Runtime.{Runtime, Opening}
use Rattle.client_model.specs.Stale.{IsStale, stale_of}
use Rattle.client_model.specs.Past.{Past, runtime_after, journal_of}
use Rattle.world_model.specs.CaughtUp.{IsCaughtUp}
use Rattle.world_model.specs.World.{World, Step}
use Rattle.world_model.specs.Steps.{world_after}
use Rattle.world_model.specs.Ties.{IsTied, TiedAt, IsServedRight, WentOn}
use Rattle.world_model.proofs.Tying.{run_sound}
use Rattle.world_laws.specs.Instances.{AreNumbered}
use Rattle.world_laws.specs.Quiet.{IsOpen}
use Rattle.world_laws.specs.Stops.{IsMadeBy}
use Rattle.world_laws.specs.Taken.{Life, life_of}
use Rattle.world_laws.specs.Versions.{IsOfPage, AreOfPage, IsServedSame, AreServedSame}
use Rattle.core_laws.specs.Written.{written}
use Rattle.world_laws.specs.Changes.{changes_in}
use Rattle.world_laws.proofs.Members.{none_in}
use Rattle.world_laws.proofs.Frames.{Frame, frames}
use Rattle.world_laws.proofs.Following.{made_run}
use Rattle.world_laws.proofs.Freshness.{IsMade, core_made, fresh_in}
use Rattle.world_laws.proofs.Making.{numbered_run, live_run, listed_run}
use Rattle.world_laws.proofs.VersionTexts.{of_page_run, served_same_run}
use Rattle.journal_laws.specs.FreshValues.{IsAcyclic, AreWithoutBag, AreLiveWithoutBag, NothingAssigned, NothingAssignedOf, NothingAssignedLive, AreFreshValues}
use Rattle.journal_laws.proofs.FreshMade.{gists, AreMade}
use Rattle.journal_laws.proofs.FreshTaken.{run_made}
use Rattle.journal_laws.proofs.FreshClient.{live_found, is_live_number, are_fresh_values}
use Rattle.journal_laws.proofs.LeadingBack.{Traced}
use Rattle.journal_laws.proofs.LeadingRun.{WasLive, traced_run}

-- What holds of a client after all that came to it.

record RunFacts (watched : ℕ → Bool) (language : Language) (There : Frame → Type 0) (r : Runtime) : Type 0 where
  numbered : AreNumbered r.instances
  live : (n : Name) → is_some (live_at r.instances n) ≡ is_in r.page.view n
  traced : Traced There r.page.view (frames r.instances)
  made : AreMade watched language (gists watched r.instances)
  listed : (b x : Name) → Contains (stale_of r) (b, x) ↔ IsStale r b x

run_facts : (watched : ℕ → Bool) (language : Language) (opening : Opening) (past : Past) → NothingAssignedOf watched (journal_of language opening past)
    → RunFacts watched language (WasLive language opening past) (runtime_after language opening past)
run_facts watched language opening past nothing = record {
  numbered = numbered_run language opening past;
  live = live_run language opening past;
  traced = traced_run language opening past;
  made = run_made watched language opening past nothing;
  listed = listed_run language opening past;
}

-- The fresh load of its record.

fresh_record : (roots : List Name) (core : Core) (i : ℕ) (c : Client) → IsMade roots core → client_at core.clients i ≡ Some c → IsUpToDate core.sources c → IsFreshLoad core.sources c
fresh_record roots core i c m e = subst (λ o. IfSome o (λ c. IsUpToDate core.sources c → IsFreshLoad core.sources c)) e (fresh_in roots core i m)

none_missing : (served : Served) (roots : List Name) → missing_of served roots ≡ [] → (n : Name) → has (reached_by served roots) n ≡ true → is_some (at served n) ≡ true
none_missing served roots e n h = by (is_some (at served n)) refl
  where
    by : (b : Bool) → is_some (at served n) ≡ b → b ≡ true
    by true s = refl
    by false s = sym (ap (λ names. has names n) e) ∙ filtered_in (λ m. not (is_some (at served m))) (reached_by served roots) n (ap not s) h

module _ (language : Language) (roots : List Name) (shelves : List (List (Text × ℕ))) (past : List Step) (i : ℕ) (c : Client) (r : Runtime) (went : WentOn language roots shelves past) (binds : BindsImports language)
    (open_is : IsOpen (world_after language roots shelves past) i c r) (up : IsCaughtUp (world_after language roots shelves past).core.sources c r) (unstale : stale_of r ≡ []) where
  abbrev world : World
  world = world_after language roots shelves past

  abbrev served : Served
  served = world.core.sources.served

  tied : IsTied i c r
  tied = subst (λ o. TiedAt i (Some c) o) open_is.open_is (subst (λ o. TiedAt i o (client_at world.clients i)) open_is.connected ((run_sound language roots shelves past went).tied i))

  abbrev life : Life
  life = life_of language roots shelves past i

  is_made : r ≡ runtime_after language life.opening life.past
  is_made = subst (IsMadeBy language life.opening life.past) open_is.open_is (made_run language roots shelves past i went)

  is_fresh_load : IsFreshLoad world.core.sources c
  is_fresh_load = fresh_record roots world.core i c (core_made language roots shelves past) open_is.connected (record { loaded = up.loaded; unchanged = up.unchanged; whole = up.whole })

  entries : (n : Name) → at r.page.view n ≡ (if has (reached_by served r.roots) n then entry_of (at served n) else None)
  entries n = ap (λ page. at page.view n) tied.page ∙ subst (λ names. at c.page.view n ≡ (if has (reached_by served names) n then entry_of (at served n) else None)) (sym tied.roots_are) (is_fresh_load.entries n)

  of_page : AreOfPage language (written (changes_in language roots shelves past)) (Some r)
  of_page = subst (AreOfPage language (written (changes_in language roots shelves past))) open_is.open_is (of_page_run language roots shelves past i)

  served_same : AreServedSame served (Some r)
  served_same = subst (AreServedSame served) open_is.open_is (served_same_run language roots shelves past i went)

  text_by : (reached : Bool) (s : Serving) (j : Instance) (e : Option Entry) → e ≡ (if reached then entry_of (Some s) else None) → IsOfPage language (written (changes_in language roots shelves past)) e j → IsServedSame (Some s) e j → j.text ≡ s.text
  text_by true s j None e p q = absurd p
  text_by true s j (Some o) e p q = sym (q (ap (λ (x : Entry). x.version) (same_Some (record { version = s.version; analysis = s.analysis }) o (sym e)) ∙ sym p.version)).0
  text_by false s j e f p q = absurd (subst (λ x. IsOfPage language (written (changes_in language roots shelves past)) x j) f p)

  texts : (n : Name) (s : Serving) (j : Instance) → at served n ≡ Some s → live_at r.instances n ≡ Some j → j.text ≡ s.text
  texts n s j e l =
      let found = live_found r.instances n j l in
      text_by (has (reached_by served r.roots) n) s j (at r.page.view n) (entries n ∙ ap (λ o. if has (reached_by served r.roots) n then entry_of o else None) e)
      (subst (λ k. IsOfPage language (written (changes_in language roots shelves past)) (at r.page.view k) j) found.1.1 (of_page j found.0 found.1.0))
      (subst (λ o. IsServedSame o (at r.page.view n) j) e (subst (λ k. IsServedSame (at served k) (at r.page.view k) j) found.1.1 (served_same j found.0 found.1.0)))

  pub live_values_are_fresh : IsAcyclic served r.roots → AreLiveWithoutBag language served r → NothingAssignedLive r (journal_of language life.opening life.past) → AreFreshValues language served r.roots r
  live_values_are_fresh acyclic bagless nothing =
      let There : Frame → Type 0 = WasLive language life.opening life.past in
      let facts : RunFacts (is_live_number r) language There r = subst (RunFacts (is_live_number r) language There) (sym is_made) (run_facts (is_live_number r) language life.opening life.past nothing) in
      are_fresh_values language served r.roots There r (record {
        numbered = facts.numbered;
        live = facts.live;
        traced = facts.traced;
        made = facts.made;
        current = λ b x s. none_in (b, x) (subst (λ edges. Contains edges (b, x)) unstale ((facts.listed b x).1 s));
        entries = entries;
        there = none_missing served r.roots (subst (λ names. missing_of served names ≡ []) (sym tied.roots_are) is_fresh_load.nothing_missing);
        texts = texts;
        binds = λ n s e. binds n s.text s.analysis (subst (IsServedRight language n) e ((run_sound language roots shelves past went).served n));
      }) acyclic bagless

  -- so where it is asked of every instance and of every served text
  pub values_are_fresh : IsAcyclic served r.roots → AreWithoutBag language served → NothingAssigned (journal_of language life.opening life.past) → AreFreshValues language served r.roots r
  values_are_fresh acyclic bagless nothing =
      live_values_are_fresh acyclic (λ n s live e. bagless n s e) (λ k spot n place before left live c. nothing k spot n place before left c)
