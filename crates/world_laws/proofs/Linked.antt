-- Each import of an instance's text has a link, for every past of a client: the walk of a plan that is
-- applied met all that its new instances import, and each met module has a live instance once it is.
use Rattle.std.proofs.Common.{◌≡◌, ◌⊎◌, inl, inr, ℕ, Bool, true, false, List, [], ◌∷◌, refl, ap, sym, ◌∙◌, Contains}
use Rattle.std.specs.Prelude.{not, ◌&&◌, ◌||◌, Option, Some, None, is_some, if◌then◌else◌}
use Rattle.std.specs.List.{cons_option}
use Rattle.std.proofs.Math.Path.{subst}
use Rattle.std.proofs.lemmas.Bool.{false≢true}
use Rattle.hmr_types.specs.declared.analysis.Analysis.{Analysis}
use Rattle.hmr_types.specs.declared.analysis.Outcome.{Outcome}
use Rattle.hmr_types.specs.declared.analysis.Outcome.TheVariants.{Good, Bad}
use Rattle.hmr_types.specs.declared.words.PlanKind.{PlanKind}
use Rattle.hmr_types.specs.declared.words.PlanKind.TheVariants.{Load, Reload, Update}
use Rattle.core_model.specs.Names.{Name, same_name, has, at}
use Rattle.core_model.specs.Sources.{Text, text_or_none}
use Rattle.core_model.specs.View.{Entry, imports_of}
use Rattle.core_model.specs.Page.{Plan, entry_at, kept_or_staged, plan_imports, met_of}
use Rattle.core_model.proofs.Naming.{both_true, has_is, or_left, or_right, true_same}
use Rattle.core_model.proofs.Planning.{met_is}
use Rattle.core_model.proofs.Reaching.{reaches_on}
use Rattle.client_model.specs.Language.{Language}
use Rattle.client_model.specs.Instance.{live_at}
use Rattle.client_model.specs.Runtime.{Runtime, Opening}
use Rattle.client_model.specs.Linking.{is_kept_kind, next_needed, new_names, number_after, number_in, links_after, link_to}
use Rattle.client_model.specs.Past.{Incoming, Past, met, runtime_after}
use Rattle.world_laws.specs.Instances.{AreLinkedWhole}
use Rattle.world_laws.proofs.Members.{none_in, map_in, MadeOf, map_from}
use Rattle.world_laws.proofs.Frames.{Frame, frame, frames, dead, cut, ended_by, live_one, made_cases}
use Rattle.world_laws.proofs.Births.{new_frame, news, olds, frames_after}
use Rattle.world_laws.proofs.Ending.{ended_names}
use Rattle.world_laws.proofs.Holding.{HoldsOf, number_at, number_is, new_is, is_ready}
use Rattle.world_laws.proofs.Messages.{Quiet, Applies, GoesTo, met_goes, run_holds}
use Rattle.world_laws.proofs.Texts.{StagedFits, FitsIn, PlanTexts}
use Rattle.world_laws.proofs.Exporting.{Right, run_right}

abbrev pub IsWhole : Language → Frame → Type 0
IsWhole language f = (a : Analysis) → language.transformed f.name f.text ≡ Good a → (x : Name) → is_some (at f.links x) ≡ has a.imports x

abbrev pub AllWhole : Language → List Frame → Type 0
AllWhole language fs = (f : Frame) → Contains fs f → IsWhole language f

cut_whole : (language : Language) (ends : ℕ → Bool) (fs : List Frame) → AllWhole language fs → AllWhole language (cut ends fs)
cut_whole language ends fs h f c =
    let m : MadeOf (λ g. if ends g.number then dead g else g) fs f = map_from (λ g. if ends g.number then dead g else g) fs f c in
    subst (IsWhole language) m.makes (by (ends m.of.number) m.of (h m.of m.there))
  where
    by : (b : Bool) (g : Frame) → IsWhole language g → IsWhole language (if b then dead g else g)
    by true g w = w
    by false g w = w

-- The links of new instances.

links_there : (p : Plan) (r : Runtime) (imports : List Name) → ((y : Name) → has imports y ≡ true → is_some (number_after p r y) ≡ true) → (x : Name) → is_some (at (links_after p r imports) x) ≡ has imports x
links_there p r [] h x = refl
links_there p r (m ∷ imports) h x = by (number_after p r m) (h m (or_left (same_name m m) _ (true_same m m refl))) (links_there p r imports (λ y t. h y (or_right (same_name m y) _ t)) x)
  where
    row : (k : ℕ) (b : Bool) → is_some (at (links_after p r imports) x) ≡ has imports x → is_some (if b then Some k else at (links_after p r imports) x) ≡ (b || has imports x)
    row k true e = refl
    row k false e = e

    by : (o : Option ℕ) → is_some o ≡ true → is_some (at (links_after p r imports) x) ≡ has imports x → is_some (at (cons_option (link_to m o) (links_after p r imports)) x) ≡ (same_name m x || has imports x)
    by None t e = absurd (false≢true t)
    by (Some k) t e = row k (same_name m x) e

kept_old : (kind : PlanKind) (replaced : Bool) (old : Option Entry) → (not (is_kept_kind kind replaced old) && true) ≡ false → is_some old ≡ true
kept_old Load replaced old e = absurd (false≢true (sym e))
kept_old Reload replaced old e = absurd (false≢true (sym e))
kept_old Update true old e = absurd (false≢true (sym e))
kept_old Update false None e = absurd (false≢true (sym e))
kept_old Update false (Some o) e = refl

new_staged : (kind : PlanKind) (replaced : Bool) (old staged : Option Entry) → not (is_kept_kind kind replaced old) ≡ true → kept_or_staged kind replaced old staged ≡ staged
new_staged Load replaced old staged e = refl
new_staged Reload replaced old staged e = refl
new_staged Update true old staged e = refl
new_staged Update false None staged e = refl
new_staged Update false (Some o) staged e = absurd (false≢true e)

pub some_number : (o : Option Frame) → is_some (number_at o) ≡ is_some o
some_number None = refl
some_number (Some f) = refl

abbrev analysis_or : Analysis → Outcome → Analysis
analysis_or d (Good a) = a
analysis_or d (Bad fault) = d

-- two good outcomes of one text are one
pub same_analysis : (language : Language) (n : Name) (t : Text) (a b : Analysis) → language.transformed n t ≡ Good a → language.transformed n t ≡ Good b → a ≡ b
same_analysis language n t a b e f = ap (analysis_or a) (sym e ∙ f)

imports_same : (language : Language) (n : Name) (o : Option Entry) (t : Option Text) (a : Analysis) → is_some o ≡ true → StagedFits (Right language n) o t → language.transformed n (text_or_none t) ≡ Good a → imports_of o ≡ a.imports
imports_same language n None t a there s e = absurd (false≢true there)
imports_same language n (Some o) None a there s e = absurd s
imports_same language n (Some o) (Some t) a there s e = ap (λ (b : Analysis). b.imports) (same_analysis language n t o.analysis a s e)

module _ (language : Language) (p : Plan) (r : Runtime) (plan_is : r.page.plan ≡ Some p) (needed : next_needed p r ≡ None) (old : HoldsOf r) (fits : FitsIn (Right language) r) where
  met_numbered : (y : Name) → has (met_of r.roots p r.page.view) y ≡ true → is_some (number_after p r y) ≡ true
  met_numbered y met = by (has (new_names p r) y) refl
    where
      by : (b : Bool) → has (new_names p r) y ≡ b → is_some (if b then Some (new_frame p r y).number else number_in (live_at r.instances y)) ≡ true
      by true e = refl
      by false e = ap is_some (number_is r.instances y) ∙ some_number (live_one (frames r.instances) y) ∙ old.live y
          ∙ kept_old p.kind (has p.replaced y) (at r.page.view y) (ap (λ m. not (is_kept_kind p.kind (has p.replaced y) (at r.page.view y)) && m) (sym met) ∙ sym (new_is p r y) ∙ e)

  new_whole : (n : Name) → has (new_names p r) n ≡ true → IsWhole language (new_frame p r n)
  new_whole n new a e x =
      let parts = both_true (not (is_kept_kind p.kind (has p.replaced n) (at r.page.view n))) (has (met_of r.roots p r.page.view) n) (sym (new_is p r n) ∙ new) in
      let entry : entry_at p r.page.view n ≡ at p.staged n = new_staged p.kind (has p.replaced n) (at r.page.view n) (at p.staged n) parts.0 in
      let planned : PlanTexts (Right language) (Some p) r.texts = subst (λ q. PlanTexts (Right language) q r.texts) plan_is fits.planned in
      let imported : imports_of (entry_at p r.page.view n) ≡ a.imports = ap imports_of entry ∙ imports_same language n (at p.staged n) (at r.texts n) a (sym (ap is_some entry) ∙ (is_ready p r plan_is needed old n new).0) (planned n) e in
      links_there p r (imports_of (entry_at p r.page.view n)) (λ y h. met_numbered y ((met_is r.roots p r.page.view y).1 (reaches_on (plan_imports p r.page.view) r.roots n y ((met_is r.roots p r.page.view n).0 parts.1) h))) x
      ∙ ap (λ names. has names x) imported

  after_whole : AllWhole language (frames r.instances) → AllWhole language (frames_after p r)
  after_whole all f c = by (made_cases (news p r) (olds p r) f c)
    where
      of_new : MadeOf (new_frame p r) (new_names p r) f → IsWhole language f
      of_new m = subst (IsWhole language) m.makes (new_whole m.of ((has_is (new_names p r) m.of).0 m.there))

      by : Contains (news p r) f ⊎ Contains (olds p r) f → IsWhole language f
      by (inl c) = of_new (map_from (new_frame p r) (new_names p r) f c)
      by (inr c) = cut_whole language (ended_by (ended_names p.kind p r) (frames r.instances)) (frames r.instances) all f c

pub met_whole : (language : Language) (r : Runtime) (came : Incoming) → HoldsOf r → FitsIn (Right language) r → AllWhole language (frames r.instances) → AllWhole language (frames (met language came r).0.instances)
met_whole language r came old fits all = by g.moves
  where
    s : Runtime
    s = (met language came r).0

    g : GoesTo language r s
    g = met_goes language r came old

    by : Quiet r.page.view s.page.view (frames r.instances) (frames s.instances) ⊎ Applies language r s.page (frames s.instances) → AllWhole language (frames s.instances)
    by (inl q) = subst (AllWhole language) (sym q.cuts) (cut_whole language q.ends (frames r.instances) all)
    by (inr a) = subst (AllWhole language) (sym a.frames_are) (after_whole language a.plan r a.plan_is a.needed old fits all)

-- every past keeps it
pub run_whole : (language : Language) (opening : Opening) (past : Past) → AllWhole language (frames (runtime_after language opening past).instances)
run_whole language opening [] = λ f c. absurd (none_in f c)
run_whole language opening (came ∷ past) = met_whole language (runtime_after language opening past) came (run_holds language opening past) (run_right language opening past) (run_whole language opening past)

pub linked_whole : (language : Language) (opening : Opening) (past : Past) → AreLinkedWhole language (runtime_after language opening past).instances
linked_whole language opening past i c = run_whole language opening past (frame i) (map_in frame (runtime_after language opening past).instances i c)
