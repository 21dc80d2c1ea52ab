-- Each name that an instance's text imports over a link is exported at the link's other end, for every
-- past of a client: a plan is applied only where that holds of its new instances, and what it keeps has
-- the exports of its page's module.
use Rattle.std.proofs.Common.{◌≡◌, ◌⊎◌, inl, inr, ℕ, Bool, true, false, List, [], ◌∷◌, refl, ap, sym, ◌∙◌, Contains}
use Rattle.std.specs.Prelude.{not, ◌&&◌, filter, map, Option, Some, None, is_some, if◌then◌else◌}
use Rattle.std.specs.List.{cons_option}
use Prim.{⊥}
use Rattle.std.proofs.Math.Path.{subst}
use Rattle.std.proofs.lemmas.Bool.{false≢true}
use Rattle.std.proofs.lemmas.Option.{same_Some}
use Rattle.hmr_types.specs.declared.analysis.Outcome.TheVariants.{Good}
use Rattle.hmr_types.specs.declared.words.PlanKind.{PlanKind}
use Rattle.hmr_types.specs.declared.words.PlanKind.TheVariants.{Load, Reload, Update}
use Rattle.update_msgs.specs.declared.message.ServerMsg.{ServerMsg}
use Rattle.update_msgs.specs.declared.message.ServerMsg.TheVariants as msg
use Rattle.core_model.specs.Names.{Name, same_name, has, at, first_of}
use Rattle.core_model.specs.Sources.{Text, text_or_none}
use Rattle.core_model.specs.View.{Entry, imports_of}
use Rattle.core_model.specs.Page.{Plan, entry_at, kept_or_staged, plan_imports, met_of}
use Rattle.core_model.proofs.Naming.{both_true, has_is, or_left, or_right, true_same, true_from}
use Rattle.core_model.proofs.Planning.{met_is}
use Rattle.core_model.proofs.Reaching.{reaches_on}
use Rattle.client_model.specs.Language.{Language, Binding}
use Rattle.client_model.specs.Instance.{Instance, live_at}
use Rattle.client_model.specs.Runtime.{Runtime, Opening, Cause, unlinked}
use Rattle.client_model.specs.Linking.{is_kept_kind, next_needed, new_names, number_after, number_in, links_after, link_to, exports_of, is_unlinked, bindings_of, unlinked_in, link_cause}
use Rattle.client_model.specs.Past.{Incoming, message, event, Past, met, runtime_after}
use Rattle.world_laws.specs.Instances.{IsExporting, AreExported}
use Rattle.world_laws.proofs.Members.{in_cases, none_in, filter_in, map_in, MadeOf, map_from, flat_in}
use Rattle.world_laws.proofs.Frames.{Frame, frame, frames, dead, is_of, cut, ended_by, made_on, live_one, found_in, old_in, new_in, made_cases}
use Rattle.world_laws.proofs.Births.{new_frame, news, olds, frames_after, new_there}
use Rattle.world_laws.proofs.Ending.{ended_names}
use Rattle.world_laws.proofs.Holding.{HoldsOf, link_from, number_at, number_is, new_is, is_ready}
use Rattle.world_laws.proofs.Messages.{Quiet, Applies, GoesTo, met_goes, run_holds}
use Rattle.world_laws.proofs.Texts.{Fit, LiveFits, FitsIn, MessageFits, IncomingFits, met_fits}

-- the one of this number exports the name
pub record Exporting (fs : List Frame) (k : ℕ) (x : Name) : Type 0 where
  pub to : Frame
  pub there : Contains fs to
  pub number : to.number ≡ k
  pub exports : has to.exports x ≡ true

-- what its text imports over its links is exported
abbrev pub IsServedBy : Language → List Frame → Frame → Type 0
IsServedBy language fs f = (b : Binding) → Contains (language.bindings f.name f.text) b → (k : ℕ) → Contains {X = Name × ℕ} f.links (b.dependency, k) → Exporting fs k b.exported

abbrev pub AllServed : Language → List Frame → Type 0
AllServed language fs = (f : Frame) → Contains fs f → IsServedBy language fs f

-- What was exported, is exported later.

cut_to : (ends : ℕ → Bool) (fs : List Frame) (k : ℕ) (x : Name) → Exporting fs k x → Exporting (cut ends fs) k x
cut_to ends fs k x t = by (ends t.to.number) (map_in (λ f. if ends f.number then dead f else f) fs t.to t.there)
  where
    by : (b : Bool) → Contains (cut ends fs) (if b then dead t.to else t.to) → Exporting (cut ends fs) k x
    by true c = record { to = dead t.to; there = c; number = t.number; exports = t.exports }
    by false c = record { to = t.to; there = c; number = t.number; exports = t.exports }

cut_served : (language : Language) (ends : ℕ → Bool) (fs : List Frame) → AllServed language fs → AllServed language (cut ends fs)
cut_served language ends fs h f c =
    let m : MadeOf (λ g. if ends g.number then dead g else g) fs f = map_from (λ g. if ends g.number then dead g else g) fs f c in
    subst (IsServedBy language (cut ends fs)) m.makes (by (ends m.of.number) m.of (h m.of m.there))
  where
    by : (b : Bool) (g : Frame) → IsServedBy language fs g → IsServedBy language (cut ends fs) (if b then dead g else g)
    by true g s = λ b c k l. cut_to ends fs k b.exported (s b c k l)
    by false g s = λ b c k l. cut_to ends fs k b.exported (s b c k l)

made_to : (bs fs : List Frame) (k : ℕ) (x : Name) → Exporting fs k x → Exporting (made_on bs fs) k x
made_to bs fs k x t = record { to = t.to; there = old_in bs fs t.to t.there; number = t.number; exports = t.exports }

-- A plan that is applied.

none_first : (causes : List Cause) (c : Cause) → first_of causes ≡ None → Contains causes c → ⊥
none_first [] c e d = none_in c d
none_first (x ∷ causes) c e d = false≢true (sym (ap is_some e))

bound_by : (language : Language) (n : Name) (t : Option Text) (b : Binding) → is_some t ≡ true → Contains (language.bindings n (text_or_none t)) b → Contains (bindings_of language n t) b
bound_by language n None b e c = absurd (false≢true e)
bound_by language n (Some t) b e c = c

-- a link is to one of the imports
link_imported : (p : Plan) (r : Runtime) (imports : List Name) (x : Name) (k : ℕ) → Contains {X = Name × ℕ} (links_after p r imports) (x, k) → has imports x ≡ true
link_imported p r [] x k c = absurd (none_in (x, k) c)
link_imported p r (m ∷ imports) x k c = by (number_after p r m) (link_imported p r imports x k) c
  where
    row : (j : ℕ) → (Contains {X = Name × ℕ} (links_after p r imports) (x, k) → has imports x ≡ true) → (◌≡◌ {A = Name × ℕ} (m, j) (x, k)) ⊎ Contains {X = Name × ℕ} (links_after p r imports) (x, k) → has (m ∷ imports) x ≡ true
    row j rest (inl s) = or_left (same_name m x) _ (true_same m x (ap (λ (q : Name × ℕ). q.0) s))
    row j rest (inr t) = or_right (same_name m x) _ (rest t)

    by : (o : Option ℕ) → (Contains {X = Name × ℕ} (links_after p r imports) (x, k) → has imports x ≡ true) → Contains {X = Name × ℕ} (cons_option (link_to m o) (links_after p r imports)) (x, k) → has (m ∷ imports) x ≡ true
    by None rest c = or_right (same_name m x) _ (rest c)
    by (Some j) rest c = row j rest (in_cases {X = Name × ℕ} (m, j) (links_after p r imports) (x, k) c)

kept_by : (kind : PlanKind) (replaced : Bool) (old staged : Option Entry) → (not (is_kept_kind kind replaced old) && true) ≡ false → kept_or_staged kind replaced old staged ≡ old
kept_by Load replaced old staged e = absurd (false≢true (sym e))
kept_by Reload replaced old staged e = absurd (false≢true (sym e))
kept_by Update true old staged e = absurd (false≢true (sym e))
kept_by Update false None staged e = absurd (false≢true (sym e))
kept_by Update false (Some o) staged e = refl

-- a live instance exports what its page's module does
live_exports : (Q : Fit) (o : Option Entry) (i : Frame) (x : Name) → LiveFits Q o (Some i) → has (exports_of o) x ≡ true → has i.exports x ≡ true
live_exports Q None i x l h = absurd (false≢true h)
live_exports Q (Some e) i x l h = ap (λ names. has names x) l.1 ∙ h

live_to : (Q : Fit) (fs : List Frame) (d : Name) (o : Option Entry) (k : ℕ) (x : Name) → LiveFits Q o (live_one fs d) → number_at (live_one fs d) ≡ Some k → has (exports_of o) x ≡ true → Exporting fs k x
live_to Q fs d o k x l e h = by (live_one fs d) refl l e
  where
    by : (i : Option Frame) → live_one fs d ≡ i → LiveFits Q o i → number_at i ≡ Some k → Exporting fs k x
    by None g l e = absurd (false≢true (ap is_some e))
    by (Some i) g l e = record { to = i; there = (found_in (is_of d) fs i g).0; number = same_Some i.number k e; exports = live_exports Q o i x l h }

module _ (language : Language) (P : Name → Fit) (p : Plan) (r : Runtime) (plan_is : r.page.plan ≡ Some p) (needed : next_needed p r ≡ None) (linked : link_cause language p r ≡ None) (old : HoldsOf r) (fits : FitsIn P r) where
  -- what a new instance's text imports is exported in the plan
  exported : (n : Name) → has (new_names p r) n ≡ true → (b : Binding) → Contains (language.bindings n (text_or_none (at r.texts n))) b → has (exports_of (entry_at p r.page.view b.dependency)) b.exported ≡ true
  exported n new b c = true_from _ (λ e.
      let bound : Contains (bindings_of language n (at r.texts n)) b = bound_by language n (at r.texts n) b (is_ready p r plan_is needed old n new).1 c in
      none_first (unlinked_in language p r) (unlinked n b.dependency b.exported) linked
      (flat_in (λ m. map (λ d. unlinked m d.dependency d.exported) (filter (is_unlinked p r.page.view) (bindings_of language m (at r.texts m)))) (new_names p r) n (unlinked n b.dependency b.exported) ((has_is (new_names p r) n).1 new)
      (map_in (λ d. unlinked n d.dependency d.exported) (filter (is_unlinked p r.page.view) (bindings_of language n (at r.texts n))) b (filter_in (is_unlinked p r.page.view) (bindings_of language n (at r.texts n)) b bound e))))

  -- what the plan exports of a met name, its number exports afterwards
  number_to : (d x : Name) (k : ℕ) → has (met_of r.roots p r.page.view) d ≡ true → number_after p r d ≡ Some k → has (exports_of (entry_at p r.page.view d)) x ≡ true → Exporting (frames_after p r) k x
  number_to d x k met e h = by (has (new_names p r) d) refl e
    where
      by : (b : Bool) → has (new_names p r) d ≡ b → (if b then Some (new_frame p r d).number else number_in (live_at r.instances d)) ≡ Some k → Exporting (frames_after p r) k x
      by true new e = record { to = new_frame p r d; there = new_in (news p r) (olds p r) (new_frame p r d) (new_there p r (new_names p r) d new); number = same_Some (new_frame p r d).number k e; exports = h }
      by false new e =
          let kept : entry_at p r.page.view d ≡ at r.page.view d = kept_by p.kind (has p.replaced d) (at r.page.view d) (at p.staged d) (ap (λ m. not (is_kept_kind p.kind (has p.replaced d) (at r.page.view d)) && m) (sym met) ∙ sym (new_is p r d) ∙ new) in
          made_to (news p r) (olds p r) k x (cut_to (ended_by (ended_names p.kind p r) (frames r.instances)) (frames r.instances) k x
          (live_to (P d) (frames r.instances) d (at r.page.view d) k x (fits.live d) (sym (number_is r.instances d) ∙ e) (ap (λ o. has (exports_of o) x) (sym kept) ∙ h)))

  new_served : (n : Name) → has (new_names p r) n ≡ true → IsServedBy language (frames_after p r) (new_frame p r n)
  new_served n new b c k l =
      let met = (both_true (not (is_kept_kind p.kind (has p.replaced n) (at r.page.view n))) (has (met_of r.roots p r.page.view) n) (sym (new_is p r n) ∙ new)).1 in
      let on = reaches_on (plan_imports p r.page.view) r.roots n b.dependency ((met_is r.roots p r.page.view n).0 met) (link_imported p r (imports_of (entry_at p r.page.view n)) b.dependency k l) in
      number_to b.dependency b.exported k ((met_is r.roots p r.page.view b.dependency).1 on) (link_from p r (imports_of (entry_at p r.page.view n)) b.dependency k l) (exported n new b c)

  after_served : AllServed language (frames r.instances) → AllServed language (frames_after p r)
  after_served all f c = by (made_cases (news p r) (olds p r) f c)
    where
      of_new : MadeOf (new_frame p r) (new_names p r) f → IsServedBy language (frames_after p r) f
      of_new m = subst (IsServedBy language (frames_after p r)) m.makes (new_served m.of ((has_is (new_names p r) m.of).0 m.there))

      by : Contains (news p r) f ⊎ Contains (olds p r) f → IsServedBy language (frames_after p r) f
      by (inl c) = of_new (map_from (new_frame p r) (new_names p r) f c)
      by (inr c) = λ b d k l. made_to (news p r) (olds p r) k b.exported (cut_served language (ended_by (ended_names p.kind p r) (frames r.instances)) (frames r.instances) all f c b d k l)

-- Each thing that comes.

pub met_served : (language : Language) (P : Name → Fit) (r : Runtime) (came : Incoming) → HoldsOf r → FitsIn P r → AllServed language (frames r.instances) → AllServed language (frames (met language came r).0.instances)
met_served language P r came old fits all = by g.moves
  where
    s : Runtime
    s = (met language came r).0

    g : GoesTo language r s
    g = met_goes language r came old

    by : Quiet r.page.view s.page.view (frames r.instances) (frames s.instances) ⊎ Applies language r s.page (frames s.instances) → AllServed language (frames s.instances)
    by (inl q) = subst (AllServed language) (sym q.cuts) (cut_served language q.ends (frames r.instances) all)
    by (inr a) = subst (AllServed language) (sym a.frames_are) (after_served language P a.plan r a.plan_is a.needed a.linked old fits all)

-- a text fits the analysis that transforming it gives
abbrev pub Right : Language → Name → Fit
Right language n v t a = language.transformed n t ≡ Good a

all_right : (language : Language) (m : ServerMsg) → MessageFits language (Right language) m
all_right language (msg.Connected client roots) = tt
all_right language (msg.Update replaced updates batch triggered) = tt
all_right language (msg.Prune paths) = tt
all_right language (msg.FullReload cause path batch triggered) = tt
all_right language (msg.Error m row column word) = tt
all_right language (msg.Broken m row column word) = tt
all_right language msg.Idle = tt
all_right language msg.Done = tt
all_right language (msg.Text m v t) = λ a e. e
all_right language (msg.Missing m) = tt
all_right language (msg.NotYet m) = tt
all_right language (msg.Refused code m told kept) = tt

pub came_right : (language : Language) (came : Incoming) → IncomingFits language (Right language) came
came_right language (message m) = all_right language m
came_right language (event n value) = tt

module _ (language : Language) (opening : Opening) where
  pub run_right : (past : Past) → FitsIn (Right language) (runtime_after language opening past)
  run_right [] = record { planned = tt; live = λ n. tt }
  run_right (came ∷ past) = met_fits language (Right language) (runtime_after language opening past) (run_holds language opening past) (run_right past) came (came_right language came)

  run_served : (past : Past) → AllServed language (frames (runtime_after language opening past).instances)
  run_served [] = λ f c. absurd (none_in f c)
  run_served (came ∷ past) = met_served language (Right language) (runtime_after language opening past) came (run_holds language opening past) (run_right past) (run_served past)

exporting_is : (is : List Instance) (k : ℕ) (x : Name) → Exporting (frames is) k x → IsExporting is k x
exporting_is is k x t =
    let m : MadeOf frame is t.to = map_from frame is t.to t.there in
    record { instance = m.of; made = m.there; number = ap (λ (f : Frame). f.number) m.makes ∙ t.number; exports = ap (λ (f : Frame). has f.exports x) m.makes ∙ t.exports }

-- so each instance is served so
pub served_exported : (language : Language) (is : List Instance) → AllServed language (frames is) → AreExported language is
served_exported language is all i c b d k l = exporting_is is k b.exported (all (frame i) (map_in frame is i c) b d k l)

pub exported_run : (language : Language) (opening : Opening) (past : Past) → AreExported language (runtime_after language opening past).instances
exported_run language opening past = served_exported language (runtime_after language opening past).instances (run_served language opening past)
