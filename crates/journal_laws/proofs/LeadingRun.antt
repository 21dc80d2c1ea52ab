-- Where no link of a live instance is out of date and no module leads back to itself, each live instance is
-- linked to older ones alone.
use Rattle.std.proofs.Common.{◌≡◌, ◌⊎◌, inl, inr, ℕ, zero, suc, ◌≤◌, ◌<◌, true, List, [], ◌∷◌, refl, ap, sym, ◌∙◌, arith}
use Rattle.std.specs.Prelude.{Option, Some, None, is_some}
use Prim.{⊥}
use Rattle.std.proofs.Math.Path.{subst}
use Rattle.std.proofs.lemmas.Bool.{false≢true}
use Rattle.std.proofs.lemmas.Option.{same_Some}
use Rattle.core_model.specs.Names.{Name, at}
use Rattle.core_model.specs.Paths.{Leads, Reaches}
use Rattle.core_model.specs.View.{View, is_in, imports, imports_of}
use Rattle.core_model.specs.Page.{Page, new_view}
use Rattle.core_model.proofs.Naming.{has_is, head_has}
use Rattle.client_model.specs.Language.{Language}
use Rattle.client_model.specs.Runtime.{Runtime, Opening}
use Rattle.client_model.specs.Past.{Past, met, runtime_after}
use Rattle.world_laws.proofs.Frames.{Frame, frames, live_one}
use Rattle.world_laws.proofs.Holding.{HoldsOf, number_at}
use Rattle.world_laws.proofs.Messages.{Quiet, Applies, GoesTo, met_goes, run_holds}
use Rattle.journal_laws.proofs.LeadingBack.{linked_import, Outdated, IsChain, Chain, Traced, Later, live_name, quiet_traced}
use Rattle.journal_laws.proofs.LeadingStep.{plan_traced}

-- All that comes to a client.

-- it was live after some of what came
abbrev pub WasLive : Language → Opening → Past → Frame → Type 0
WasLive language opening [] f = ⊥
WasLive language opening (came ∷ past) f = Later (frames (runtime_after language opening (came ∷ past)).instances) (WasLive language opening past) f

nothing_traced : (There : Frame → Type 0) → ((f : Frame) → There f → ⊥) → Traced There [] []
nothing_traced There none = record {
  low = λ f h. absurd (none f h);
  live = λ n f e. absurd (false≢true (ap is_some e));
  one = λ f g h k e. absurd (none f h);
  newest = λ f g h e. absurd (none g h);
  linking = λ n f e. absurd (false≢true (ap is_some e));
  led = λ n f e x l k. absurd (false≢true (ap is_some e));
  back = λ n f e x l k b. absurd (false≢true (ap is_some e));
}

applied_traced : (language : Language) (There : Frame → Type 0) (r : Runtime) (page : Page) (fs : List Frame) → HoldsOf r → Traced There r.page.view (frames r.instances) → ((n : Name) → is_some (live_one fs n) ≡ is_in page.view n) → Applies language r page fs → Traced (Later fs There) page.view fs
applied_traced language There r page fs h t lives a =
    subst (λ v. Traced (Later fs There) v fs) (sym (ap (λ (q : Page). q.view) a.page_is))
    (subst (λ gs. Traced (Later gs There) (new_view r.roots a.plan r.page.view) gs) (sym a.frames_are)
    (plan_traced There a.plan r a.plan_is a.needed h t (λ n. ap (λ gs. is_some (live_one gs n)) (sym a.frames_are) ∙ lives n ∙ ap (λ (q : Page). is_in q.view n) a.page_is)))

step_traced : (language : Language) (There : Frame → Type 0) (r s : Runtime) → HoldsOf r → Traced There r.page.view (frames r.instances) → GoesTo language r s → Traced (Later (frames s.instances) There) s.page.view (frames s.instances)
step_traced language There r s h t g = by g.moves
  where
    by : Quiet r.page.view s.page.view (frames r.instances) (frames s.instances) ⊎ Applies language r s.page (frames s.instances) → Traced (Later (frames s.instances) There) s.page.view (frames s.instances)
    by (inl q) = quiet_traced There r.page.view s.page.view (frames r.instances) (frames s.instances) t q g.holds.live
    by (inr a) = applied_traced language There r s.page (frames s.instances) h t g.holds.live a

pub traced_run : (language : Language) (opening : Opening) (past : Past) → Traced (WasLive language opening past) (runtime_after language opening past).page.view (frames (runtime_after language opening past).instances)
traced_run language opening [] = nothing_traced (WasLive language opening []) (λ f h. h)
traced_run language opening (came ∷ past) =
    let r : Runtime = runtime_after language opening past in
    step_traced language (WasLive language opening past) r (met language came r).0 (run_holds language opening past) (traced_run language opening past) (met_goes language r came (run_holds language opening past))

-- Where no link is out of date.

number_found : (o : Option Frame) (l : ℕ) → Some l ≡ number_at o → (f : Frame) × ((o ≡ Some f) × (f.number ≡ l))
number_found None l e = absurd (false≢true (sym (ap is_some e)))
number_found (Some f) l e = (f, (refl, same_Some f.number l (sym e)))

below_or_not : (j k : ℕ) → (j < k) ⊎ (k ≤ j)
below_or_not j zero = inr (omega arith)
below_or_not zero (suc k) = inl (omega arith)
below_or_not (suc j) (suc k) = by (below_or_not j k)
  where
    by : (j < k) ⊎ (k ≤ j) → (suc j < suc k) ⊎ (suc k ≤ suc j)
    by (inl l) = inl (omega (arith, l))
    by (inr l) = inr (omega (arith, l))

-- each live instance is linked to the live ones of what it imports
abbrev pub AreCurrent : View → List Frame → Type 0
AreCurrent view fs = (b x : Name) (f : Frame) → live_one fs b ≡ Some f → imports view b x ≡ true → at f.links x ≡ number_at (live_one fs x)

module _ (There : Frame → Type 0) (view : View) (fs : List Frame) (t : Traced There view fs) (current : AreCurrent view fs) where
  leads_back : (through : List Frame) (a n : Name) (f g : Frame) → live_one fs a ≡ Some f → live_one fs n ≡ Some g → IsChain There through f.number g.number → (path : List Name) × Leads (imports view) a path n
  leads_back [] a n f g ef eg c = ([], sym (live_name fs a f ef) ∙ ap (λ (h : Frame). h.name) (t.one f g (t.live a f ef) (t.live n g eg) c) ∙ live_name fs n g eg)
  leads_back (h ∷ rest) a n f g ef eg c =
      let same : h ≡ f = t.one h f c.0 (t.live a f ef) c.1 in
      let link : at f.links c.2.over ≡ Some c.2.to = ap (λ (k : Frame). at k.links c.2.over) (sym same) ∙ c.2.link in
      let importing : imports view a c.2.over ≡ true = linked_import f.links (imports_of (at view a)) (t.linking a f ef) c.2.over c.2.to link in
      let k = number_found (live_one fs c.2.over) c.2.to (sym link ∙ current a c.2.over f ef importing) in
      by k.0 k.1.0 k.1.1 importing (λ d. leads_back rest c.2.over n k.0 g k.1.0 eg (subst (λ j. IsChain There rest j g.number) (sym k.1.1) d)) c.2.on
    where
      by : (k : Frame) → live_one fs c.2.over ≡ Some k → k.number ≡ c.2.to → imports view a c.2.over ≡ true → (IsChain There rest c.2.to g.number → (path : List Name) × Leads (imports view) c.2.over path n) → Outdated There c.2.over c.2.to ⊎ IsChain There rest c.2.to g.number → (path : List Name) × Leads (imports view) a path n
      by k e numbered importing further (inl o) = absurd (omega (arith, numbered, o.above, t.newest k o.newer o.there (ap (live_one fs) o.name ∙ e)))
      by k e numbered importing further (inr d) = let p = further d in (c.2.over ∷ p.0, (importing, p.1))

  pub older_link : ((n x : Name) → is_some (live_one fs n) ≡ true → imports view n x ≡ true → Reaches (imports view) (x ∷ []) n → ⊥) → (n : Name) (f : Frame) → live_one fs n ≡ Some f → (x : Name) (l : ℕ) → at f.links x ≡ Some l → l < f.number
  older_link acyclic n f e x l link = by (below_or_not l f.number)
    where
      importing : imports view n x ≡ true
      importing = linked_import f.links (imports_of (at view n)) (t.linking n f e) x l link

      back : (k : Frame) → live_one fs x ≡ Some k → k.number ≡ l → Chain There l f.number → ⊥
      back k ek numbered c =
          let p = leads_back c.through x n k f ek e (subst (λ j. IsChain There c.through j f.number) (sym numbered) c.is) in
          acyclic n x (ap is_some e) importing (record { path = x ∷ p.0; is = ((has_is (x ∷ []) x).1 (head_has x []), p.1) })

      by : (l < f.number) ⊎ (f.number ≤ l) → l < f.number
      by (inl less) = less
      by (inr high) = let k = number_found (live_one fs x) l (sym link ∙ current n x f e importing) in absurd (back k.0 k.1.0 k.1.1 (t.back n f e x l link high))
