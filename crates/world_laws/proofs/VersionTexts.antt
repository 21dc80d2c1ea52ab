-- Each live instance of an open client is of its page's module, and its text is that of the edit that was
-- counted as its version; so it is what is served, where that version is served.
use Rattle.std.proofs.Common.{◌≡◌, ◌⊎◌, inl, inr, ℕ, ◌≤◌, Bool, true, false, List, [], ◌∷◌, length, refl, ap, sym, ◌∙◌, arith, Contains}
use Rattle.std.specs.Prelude.{find, filter, cond, ◌&&◌, Option, Some, None, is_some, ⊤}
use Rattle.std.proofs.Math.Path.{subst}
use Rattle.std.proofs.lemmas.Bool.{false≢true}
use Rattle.std.proofs.lemmas.Option.{same_Some}
use Rattle.hmr_types.specs.declared.analysis.Analysis.{Analysis}
use Rattle.hmr_types.specs.declared.analysis.Outcome.{Outcome}
use Rattle.hmr_types.specs.declared.analysis.Outcome.TheVariants.{Good, Bad}
use Rattle.core_model.specs.Names.{Name, same_name, at, first_of}
use Rattle.core_model.specs.Sources.{Text, Change, edit, Serving}
use Rattle.core_model.specs.View.{Entry}
use Rattle.core_model.specs.Core.{client_at}
use Rattle.core_model.proofs.Naming.{true_same}
use Rattle.core_laws.specs.Written.{written, IsServedWritten}
use Rattle.core_laws.proofs.Writing.{written_stays}
use Rattle.client_model.specs.Language.{Language}
use Rattle.client_model.specs.Instance.{Instance}
use Rattle.client_model.specs.Runtime.{Runtime, Opening, new_runtime}
use Rattle.client_model.specs.Past.{Incoming, met}
use Rattle.world_model.specs.World.{Job, World, Step, edits, settles, opens, turn, closes, show, values, fates, fresh, fresh_of, fires}
use Rattle.world_model.specs.Editing.{is_job}
use Rattle.world_model.specs.Steps.{world_after}
use Rattle.world_model.specs.Ties.{IsServedRight, WentOn}
use Rattle.world_model.proofs.Tying.{run_sound}
use Rattle.world_laws.specs.Changes.{result_too, change_too, changes_in}
use Rattle.world_laws.specs.Versions.{IsOfPage, AreOfPage, IsServedSame, AreServedSame, IsFetched, AreFetched}
use Rattle.world_laws.proofs.Members.{none_in, in_cases, map_in, filter_in}
use Rattle.world_laws.proofs.Frames.{Frame, frame, frames, is_of, live_one, live_count}
use Rattle.world_laws.proofs.Texts.{Fit, StagedFits, LiveFits, PlanTexts, FitsIn, fits_too}
use Rattle.world_laws.proofs.Holding.{HoldsOf}
use Rattle.world_laws.proofs.Replies.{ServedFits, KeptAt, step_kept}
use Rattle.world_laws.proofs.Changes.{served_written_in}

-- a text is that of its version, and transforming it gives the analysis
abbrev pub OfVersion : Language → (Name → ℕ → Option Text) → Name → Fit
OfVersion language by n v t a = (language.transformed n t ≡ Good a) × (by n v ≡ Some t)

-- nothing is asked of a client besides
abbrev Nothing : Runtime → Type 0
Nothing r = ⊤

nothing_begins : (opening : Opening) → Nothing (new_runtime opening)
nothing_begins opening = tt

module _ (language : Language) (by : Name → ℕ → Option Text) where
  nothing_goes : (r : Runtime) (came : Incoming) → HoldsOf r → FitsIn (OfVersion language by) r → FitsIn (OfVersion language by) (met language came r).0 → Nothing r → Nothing (met language came r).0
  nothing_goes r came h old new n = tt

  abbrev Kept : Option Runtime → Type 0
  Kept o = KeptAt language (OfVersion language by) Nothing nothing_begins nothing_goes o

kept_more : (language : Language) (by more : Name → ℕ → Option Text) → ((n : Name) (v : ℕ) (t : Text) → by n v ≡ Some t → more n v ≡ Some t) → (o : Option Runtime) → Kept language by o → Kept language more o
kept_more language by more f None k = tt
kept_more language by more f (Some r) k = (k.0, fits_too (OfVersion language by) (OfVersion language more) (λ n v t a h. (h.0, f n v t h.1)) r k.1, tt)

result_more : (language : Language) (m : Name) (w : ℕ) (o : Option Job) (past : List Change) (n : Name) (v : ℕ) (t : Text) → written past n v ≡ Some t → written (result_too language m w o past) n v ≡ Some t
result_more language m w None past n v t h = h
result_more language m w (Some j) past n v t h = h

change_more : (language : Language) (w : World) (s : Step) (past : List Change) (n : Name) (v : ℕ) (t : Text) → written past n v ≡ Some t → written (change_too language w s past) n v ≡ Some t
change_more language w (edits m x) past n v t h = written_stays past (edit m x) n v t h
change_more language w (settles m k) past n v t h = result_more language m k (find (is_job m k) w.issued) past n v t h
change_more language w (opens format names) past n v t h = h
change_more language w (turn i) past n v t h = h
change_more language w (closes i) past n v t h = h
change_more language w (show i) past n v t h = h
change_more language w (values i) past n v t h = h
change_more language w (fates i) past n v t h = h
change_more language w fresh past n v t h = h
change_more language w (fresh_of i) past n v t h = h
change_more language w (fires i m value) past n v t h = h

served_fits : (language : Language) (by : Name → ℕ → Option Text) (n : Name) (o : Option Serving) → IsServedWritten (by n) o → ServedFits language (OfVersion language by) n o
served_fits language by n None h = tt
served_fits language by n (Some s) h = λ a e. (e, h)

-- The live instance of a name.

find_first : (p : Frame → Bool) (fs : List Frame) → find p fs ≡ first_of (filter p fs)
find_first p [] = refl
find_first p (f ∷ fs) = by (p f) (find_first p fs)
  where
    by : (b : Bool) → find p fs ≡ first_of (filter p fs) → cond b (Some f) (find p fs) ≡ first_of (cond b (f ∷ filter p fs) (filter p fs))
    by true h = refl
    by false h = h

only_one : (fs : List Frame) (f : Frame) → length fs ≤ 1 → Contains fs f → first_of fs ≡ Some f
only_one [] f l c = absurd (none_in f c)
only_one (g ∷ []) f l c = by (in_cases g [] f c)
  where
    by : (g ≡ f) ⊎ Contains [] f → Some g ≡ Some f
    by (inl e) = ap Some e
    by (inr t) = absurd (none_in f t)
only_one (g ∷ (h ∷ fs)) f l c = absurd (omega (arith, l))

pub the_live : (fs : List Frame) (f : Frame) → Contains fs f → f.live ≡ true → live_count fs f.name ≤ 1 → live_one fs f.name ≡ Some f
the_live fs f c l one = find_first (is_of f.name) fs ∙ only_one (filter (is_of f.name) fs) f one (filter_in (is_of f.name) fs f c (ap (λ b. b && same_name f.name f.name) l ∙ true_same f.name f.name refl))

module _ (language : Language) (by : Name → ℕ → Option Text) where
  of_page : (o : Option Entry) (i : Instance) → is_some o ≡ true → LiveFits (OfVersion language by i.name) o (Some (frame i)) → IsOfPage language by o i
  of_page None i e l = absurd (false≢true e)
  of_page (Some e) i s l = record { version = l.0; exports = l.1; text = ap (by i.name) l.0 ∙ l.2.1; analysis = l.2.0 }

  of_client : (o : Option Runtime) → Kept language by o → AreOfPage language by o
  of_client None k = tt
  of_client (Some r) k = λ i c l.
      let one : live_one (frames r.instances) i.name ≡ Some (frame i) = the_live (frames r.instances) (frame i) (map_in frame r.instances i c) l (k.0.one i.name) in
      of_page (at r.page.view i.name) i (sym (k.0.live i.name) ∙ ap is_some one) (subst (LiveFits (OfVersion language by i.name) (at r.page.view i.name)) one (k.1.live i.name))

  fetched : (n : Name) (e : Entry) (t : Option Text) → StagedFits (OfVersion language by n) (Some e) t → IsFetched language by n e t
  fetched n e None h = h
  fetched n e (Some t) h = (h.1, h.0)

  of_plan : (o : Option Runtime) → Kept language by o → AreFetched language by o
  of_plan None k = tt
  of_plan (Some r) k = λ p is n e staged.
      let planned : PlanTexts (OfVersion language by) (Some p) r.texts = subst (λ q. PlanTexts (OfVersion language by) q r.texts) is k.1.planned in
      fetched n e (at r.texts n) (subst (λ o. StagedFits (OfVersion language by n) o (at r.texts n)) staged (planned n))

  abbrev analysis_or : Analysis → Outcome → Analysis
  analysis_or a (Good b) = b
  analysis_or a (Bad fault) = a

  served_same : (s : Option Serving) (o : Option Entry) (i : Instance) → IsServedWritten (by i.name) s → IsServedRight language i.name s → IsOfPage language by o i → IsServedSame s o i
  served_same None o i w right h = tt
  served_same (Some s) None i w right h = h
  served_same (Some s) (Some e) i w right h = λ v.
      let text : s.text ≡ i.text = same_Some s.text i.text (sym w ∙ ap (by i.name) v ∙ h.text) in
      (text, ap (analysis_or s.analysis) (sym right ∙ ap (language.transformed i.name) text ∙ h.analysis))

-- Every step.

module _ (language : Language) (roots : List Name) (shelves : List (List (Text × ℕ))) where
  abbrev texts_in : List Step → Name → ℕ → Option Text
  texts_in past = written (changes_in language roots shelves past)

  run_kept : (past : List Step) (i : ℕ) → Kept language (texts_in past) (client_at (world_after language roots shelves past).clients i)
  run_kept [] = λ i. tt
  run_kept (s ∷ past) = λ i.
      let w : World = world_after language roots shelves past in
      kept_more language (texts_in past) (texts_in (s ∷ past)) (change_more language w s (changes_in language roots shelves past)) (client_at (world_after language roots shelves (s ∷ past)).clients i)
      (step_kept language (OfVersion language (texts_in past)) Nothing nothing_begins (nothing_goes language (texts_in past)) roots shelves w s (λ n. served_fits language (texts_in past) n (at w.core.sources.served n) (served_written_in language roots shelves past n)) (run_kept past) i)

  pub of_page_run : (past : List Step) (i : ℕ) → AreOfPage language (texts_in past) (client_at (world_after language roots shelves past).clients i)
  of_page_run past i = of_client language (texts_in past) (client_at (world_after language roots shelves past).clients i) (run_kept past i)

  pub of_plan_run : (past : List Step) (i : ℕ) → AreFetched language (texts_in past) (client_at (world_after language roots shelves past).clients i)
  of_plan_run past i = of_plan language (texts_in past) (client_at (world_after language roots shelves past).clients i) (run_kept past i)

  pub served_same_run : (past : List Step) (i : ℕ) → WentOn language roots shelves past → AreServedSame (world_after language roots shelves past).core.sources.served (client_at (world_after language roots shelves past).clients i)
  served_same_run past i went = by (client_at w.clients i) (of_page_run past i)
    where
      w : World
      w = world_after language roots shelves past

      by : (o : Option Runtime) → AreOfPage language (texts_in past) o → AreServedSame w.core.sources.served o
      by None h = tt
      by (Some r) h = λ k c l. served_same language (texts_in past) (at w.core.sources.served k.name) (at r.page.view k.name) k (served_written_in language roots shelves past k.name) ((run_sound language roots shelves past went).served k.name) (h k c l)
