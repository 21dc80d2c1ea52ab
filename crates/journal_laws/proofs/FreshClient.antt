-- A client without stale edges, whose page is a fresh load, holds the values of that fresh load.
use Rattle.std.proofs.Common.{◌≡◌, ℕ, Bool, true, false, List, [], ◌∷◌, refl, ap, sym, ◌∙◌, Contains}
use Rattle.std.specs.Prelude.{◌&&◌, Option, Some, None, is_some, option_map, if◌then◌else◌}
use Rattle.std.specs.List.{list_all}
use Prim.{⊥}
use Rattle.std.proofs.Math.Path.{subst}
use Rattle.std.proofs.lemmas.Bool.{false≢true}
use Rattle.std.proofs.lemmas.Option.{same_Some}
use Rattle.core_model.specs.Names.{Name, same_name, has, at}
use Rattle.core_model.specs.Paths.{Reaches}
use Rattle.core_model.specs.Sources.{Serving}
use Rattle.core_model.specs.FreshLoad as fresh
use Rattle.core_model.specs.FreshLoad.{Served, imports_in, reached_by}
use Rattle.core_model.specs.View.{is_in, imports, imports_of}
use Rattle.core_model.proofs.Naming.{both_true, same_true}
use Rattle.core_model.proofs.Loading.{reached_is}
use Rattle.core_model.proofs.Reaching.{reaches_on, reaches_start, reaches_within}
use Rattle.core_laws.specs.Given.{entry_of}
use Rattle.client_model.specs.Language.{Language}
use Rattle.client_model.specs.Instance.{Instance, is_live, numbered, live_at}
use Rattle.client_model.specs.Linking.{number_in}
use Rattle.client_model.specs.Runtime.{Runtime}
use Rattle.client_model.specs.Stale.{live_number, link_in, link_of, same_link, IsStale}
use Rattle.world_laws.specs.Instances.{AreNumbered}
use Rattle.world_laws.proofs.Frames.{Frame, frame, frames, live_one, found_in}
use Rattle.world_laws.proofs.Holding.{live_is, number_at, number_is}
use Rattle.world_laws.proofs.StaleLists.{linked_same, same_linked}
use Rattle.journal_laws.specs.FreshValues.{Valued, fresh_valued, IsAcyclic, AreLiveWithoutBag, is_live_in, AreFreshValues}
use Rattle.journal_laws.proofs.FreshFold.{AreGiven, fresh_are}
use Rattle.journal_laws.proofs.FreshMade.{gists, AreMade}
use Rattle.journal_laws.proofs.FreshSame.{number_found, MadeOver, made_over, valued_of, IsDone, value_is}
use Rattle.journal_laws.proofs.LeadingBack.{Linking, some_of, Traced}
use Rattle.journal_laws.proofs.LeadingRun.{AreCurrent, older_link}

-- Live instances.

pub live_found : (instances : List Instance) (n : Name) (i : Instance) → live_at instances n ≡ Some i → Contains instances i × ((is_live i ≡ true) × (i.name ≡ n))
live_found instances n i e =
    let k = found_in (λ j. is_live j && same_name j.name n) instances i e in
    let parts = both_true (is_live i) (same_name i.name n) k.1 in
    (k.0, (parts.0, same_true i.name n parts.1))

-- No edge is stale.

not_stale : (j k : Option ℕ) → ((j ≡ k → ⊥) → ⊥) → j ≡ k
not_stale j k f = by (same_link j k) refl
  where
    by : (b : Bool) → same_link j k ≡ b → j ≡ k
    by true h = linked_same j k h
    by false h = absurd (f (λ e. false≢true (sym h ∙ same_linked j k e)))

-- Entries of a fresh load.

view_import : (reached : Bool) (o : Option Serving) (m : Name) → has (imports_of (if reached then entry_of o else None)) m ≡ true → has (imports_in o) m ≡ true
view_import true None m h = h
view_import true (Some s) m h = h
view_import false o m h = absurd (false≢true h)

entry_reached : (reached : Bool) (o : Option Serving) → is_some (if reached then entry_of o else None) ≡ true → reached ≡ true
entry_reached true o h = refl
entry_reached false o h = absurd (false≢true h)

entry_there : (o : Option Serving) → is_some o ≡ true → is_some (entry_of o) ≡ true
entry_there None h = h
entry_there (Some s) h = refl

-- the instance of this number is live
abbrev pub is_live_number : Runtime → ℕ → Bool
is_live_number r k = is_live_in (numbered r.instances k)

-- what is known of a client whose page is a fresh load, where no edge is stale and no run of a live instance's
-- handlers assigned
pub record HoldsFresh (language : Language) (served : Served) (roots : List Name) (There : Frame → Type 0) (r : Runtime) : Type 0 where
  pub numbered : AreNumbered r.instances
  pub live : (n : Name) → is_some (live_at r.instances n) ≡ is_in r.page.view n
  pub traced : Traced There r.page.view (frames r.instances)
  pub made : AreMade (is_live_number r) language (gists (is_live_number r) r.instances)
  pub current : (b x : Name) → IsStale r b x → ⊥
  pub entries : (n : Name) → at r.page.view n ≡ (if has (reached_by served roots) n then entry_of (at served n) else None)
  pub there : (n : Name) → has (reached_by served roots) n ≡ true → is_some (at served n) ≡ true
  pub texts : (n : Name) (s : Serving) (i : Instance) → at served n ≡ Some s → live_at r.instances n ≡ Some i → i.text ≡ s.text
  pub binds : (n : Name) (s : Serving) → at served n ≡ Some s → list_all (λ b. has s.analysis.imports b.dependency) (language.bindings n s.text) ≡ true

module _ (language : Language) (served : Served) (roots : List Name) (There : Frame → Type 0) (r : Runtime) (h : HoldsFresh language served roots There r) (acyclic : IsAcyclic served roots) (bagless : AreLiveWithoutBag language served r) where
  abbrev want : Name → Option Valued
  want n = option_map valued_of (live_at r.instances n)

  live_want : (n : Name) → is_some (want n) ≡ is_in r.page.view n
  live_want n = by (live_at r.instances n) ∙ h.live n
    where
      by : (o : Option Instance) → is_some (option_map valued_of o) ≡ is_some o
      by None = refl
      by (Some i) = refl

  want_reached : (n : Name) → is_some (want n) ≡ true → has (reached_by served roots) n ≡ true
  want_reached n w = entry_reached (has (reached_by served roots) n) (at served n) (sym (ap is_some (h.entries n)) ∙ sym (live_want n) ∙ w)

  reached_want : (n : Name) → has (reached_by served roots) n ≡ true → is_some (want n) ≡ true
  reached_want n k = live_want n ∙ ap is_some (h.entries n ∙ ap (λ b. if b then entry_of (at served n) else None) k) ∙ entry_there (at served n) (h.there n k)

  closed : (n m : Name) → is_some (want n) ≡ true → fresh.imports served n m ≡ true → is_some (want m) ≡ true
  closed n m w e = reached_want m ((reached_is served roots m).1 (reaches_on (fresh.imports served) roots n m ((reached_is served roots n).0 (want_reached n w)) e))

  live_framed : (n : Name) (i : Instance) → live_at r.instances n ≡ Some i → live_one (frames r.instances) n ≡ Some (frame i)
  live_framed n i e = live_is r.instances n ∙ ap (option_map frame) e

  framed_want : (n : Name) → is_some (live_one (frames r.instances) n) ≡ true → is_some (want n) ≡ true
  framed_want n e = by (live_at r.instances n) (sym (ap is_some (live_is r.instances n)) ∙ e)
    where
      by : (o : Option Instance) → is_some (option_map frame o) ≡ true → is_some (option_map valued_of o) ≡ true
      by None e = e
      by (Some i) e = refl

  -- Links are to the live instances of the imports, and these are older.

  current_link : (b x : Name) (i : Instance) → live_at r.instances b ≡ Some i → imports r.page.view b x ≡ true → at i.links x ≡ number_in (live_at r.instances x)
  current_link b x i e k = sym (ap (λ o. link_in o x) e) ∙ not_stale (link_of r b x) (live_number r x) (λ f. h.current b x (record { live = ap is_some e; importing = k; older = f }))

  are_current : AreCurrent r.page.view (frames r.instances)
  are_current b x f e k = by (live_at r.instances b) refl
    where
      by : (o : Option Instance) → live_at r.instances b ≡ o → at f.links x ≡ number_at (live_one (frames r.instances) x)
      by None l = absurd (false≢true (sym (ap is_some (live_is r.instances b ∙ ap (option_map frame) l)) ∙ ap is_some e))
      by (Some i) l = ap (λ (g : Frame). at g.links x) (same_Some f (frame i) (sym e ∙ live_framed b i l)) ∙ current_link b x i l k ∙ number_is r.instances x

  to_served : (n m : Name) → imports r.page.view n m ≡ true → fresh.imports served n m ≡ true
  to_served n m k = view_import (has (reached_by served roots) n) (at served n) m (sym (ap (λ o. has (imports_of o) m) (h.entries n)) ∙ k)

  view_acyclic : (n x : Name) → is_some (live_one (frames r.instances) n) ≡ true → imports r.page.view n x ≡ true → Reaches (imports r.page.view) (x ∷ []) n → ⊥
  view_acyclic n x w k back = acyclic n x (want_reached n (framed_want n w)) (to_served n x k)
      (reaches_within (imports r.page.view) (x ∷ []) (Reaches (fresh.imports served) (x ∷ [])) (reaches_start (fresh.imports served) (x ∷ []))
      (λ a b reach e. reaches_on (fresh.imports served) (x ∷ []) a b reach (to_served a b e)) n back)

  -- The values are those that the fresh load computes.

  view_entry : (n : Name) (s : Serving) → at served n ≡ Some s → is_some (want n) ≡ true → imports_of (at r.page.view n) ≡ s.analysis.imports
  view_entry n s e w = ap imports_of (h.entries n ∙ ap (λ b. if b then entry_of (at served n) else None) (want_reached n w) ∙ ap entry_of e)

  -- a live instance is found by its number
  live_seen : (i : Instance) → Contains r.instances i → is_live i ≡ true → is_live_number r i.number ≡ true
  live_seen i c l = ap is_live_in (number_found r.instances h.numbered i c) ∙ l

  import_done : (n : Name) (s : Serving) (i : Instance) (done : List (Name × Valued)) → at served n ≡ Some s → live_at r.instances n ≡ Some i → ((m : Name) → has s.analysis.imports m ≡ true → at done m ≡ want m)
      → (over : MadeOver (is_live_number r) language r.instances i) → (x : Name) → has s.analysis.imports x ≡ true → IsDone (is_live_number r) over.older i.links done x
  import_done n s i done e l eq over x k =
      let w : is_some (want n) ≡ true = ap (λ o. is_some (option_map valued_of o)) l in
      let importing : imports r.page.view n x ≡ true = ap (λ names. has names x) (view_entry n s e w) ∙ k in
      let there = some_of (live_at r.instances x) (h.live x ∙ sym (live_want x) ∙ closed n x w (to_served n x importing)) in
      let link : at i.links x ≡ Some there.0.number = current_link n x i l importing ∙ ap number_in there.1 in
      record {
        instance = there.0;
        link = link;
        seen = let k = live_found r.instances x there.0 there.1 in live_seen there.0 k.0 k.1.0;
        found = over.same there.0.number (older_link There r.page.view (frames r.instances) h.traced are_current view_acyclic n (frame i) (live_framed n i l) x there.0.number link)
            ∙ number_found r.instances h.numbered there.0 (live_found r.instances x there.0 there.1).0;
        value = eq x k ∙ ap (option_map valued_of) there.1;
      }

  value_at : (n : Name) (s : Serving) (i : Instance) (done : List (Name × Valued)) → at served n ≡ Some s → live_at r.instances n ≡ Some i → ((m : Name) → has s.analysis.imports m ≡ true → at done m ≡ want m) → fresh_valued language done n s ≡ valued_of i
  value_at n s i done e l eq =
      let found = live_found r.instances n i l in
      let over : MadeOver (is_live_number r) language r.instances i = made_over (is_live_number r) language r.instances h.numbered h.made i found.0 in
      value_is language n s i (is_live_number r) over.older done found.1.1 (h.texts n s i e l)
      (subst (Linking i.links) (view_entry n s e (ap (λ o. is_some (option_map valued_of o)) l)) (h.traced.linking n (frame i) (live_framed n i l)))
      (import_done n s i done e l eq over) (h.binds n s e) (bagless n s (ap is_some l) e) (live_seen i found.0 found.1.0) over.made

  are_given : AreGiven language served want
  are_given = record {
    there = λ n w. h.there n (want_reached n w);
    closed = closed;
    acyclic = λ n m w e back. acyclic n m (want_reached n w) e back;
    value = λ n s v done e w eq. by n s v done e eq (live_at r.instances n) refl w;
  }
    where
      by : (n : Name) (s : Serving) (v : Valued) (done : List (Name × Valued)) → at served n ≡ Some s → ((m : Name) → has s.analysis.imports m ≡ true → at done m ≡ want m) → (o : Option Instance) → live_at r.instances n ≡ o → option_map valued_of o ≡ Some v → fresh_valued language done n s ≡ v
      by n s v done e eq None l w = absurd (false≢true (ap is_some w))
      by n s v done e eq (Some i) l w = value_at n s i done e l eq ∙ same_Some (valued_of i) v w

  pub are_fresh_values : AreFreshValues language served roots r
  are_fresh_values n i l = fresh_are language served roots want are_given acyclic n (valued_of i) ((reached_is served roots n).0 (want_reached n (ap (λ o. is_some (option_map valued_of o)) l))) (ap (option_map valued_of) l)
