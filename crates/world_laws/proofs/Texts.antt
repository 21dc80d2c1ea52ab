-- Each live instance is of its page's module: its version and exports are the module's, and its text fits
-- the module in whatever way each text does that comes for a fetch.
use Rattle.std.proofs.Common.{◌≡◌, ◌⊎◌, inl, inr, ℕ, Bool, true, false, List, [], refl, ap, sym, ◌∙◌}
use Rattle.std.specs.Prelude.{not, ◌&&◌, Option, Some, None, if◌then◌else◌, ⊤}
use Prim.{⊥}
use Rattle.std.proofs.Math.Path.{subst}
use Rattle.hmr_types.specs.declared.analysis.Analysis.{Analysis}
use Rattle.hmr_types.specs.declared.analysis.Outcome.{Outcome}
use Rattle.hmr_types.specs.declared.analysis.Outcome.TheVariants.{Good, Bad}
use Rattle.hmr_types.specs.declared.words.PlanKind.{PlanKind}
use Rattle.hmr_types.specs.declared.words.PlanKind.TheVariants.{Load, Reload, Update}
use Rattle.update_msgs.specs.declared.message.ClientMsg.{ClientMsg}
use Rattle.update_msgs.specs.declared.message.ClientMsg.TheVariants as request_is
use Rattle.update_msgs.specs.declared.message.ServerMsg.{ServerMsg}
use Rattle.update_msgs.specs.declared.message.ServerMsg.TheVariants as msg
use Rattle.core_model.specs.Names.{Name, same_name, has, at, with_row}
use Rattle.core_model.specs.Sources.{Text, text_or_none}
use Rattle.core_model.specs.View.{Entry}
use Rattle.core_model.specs.Page.{Plan, Page, given_up, kept_or_staged, unmet_entry, met_of}
use Rattle.core_model.proofs.Naming.{same_true}
use Rattle.core_model.proofs.Tables.{at_with_row}
use Rattle.client_model.specs.Language.{Language}
use Rattle.client_model.specs.Runtime.{Runtime, Cause, nothing, and_then, for_each}
use Rattle.client_model.specs.Linking.{exports_of, is_kept_kind}
use Rattle.client_model.specs.Requesting.{cause_by}
use Rattle.client_model.specs.Applying.{prune_instance, live_of}
use Rattle.client_model.specs.Answering.{stage, stage_in, apply_in, abort_in, write_cause, done, took_refusal, answered}
use Rattle.client_model.specs.Expecting.{is_answer}
use Rattle.client_model.specs.Taking.{take}
use Rattle.client_model.specs.Firing.{fire, hear_all}
use Rattle.client_model.specs.Past.{Incoming, met}
use Rattle.client_model.specs.Past as came_is
use Rattle.hmr_types.specs.declared.value.Value.{Value}
use Rattle.world_laws.proofs.Firings.{fire_by}
use Rattle.client_model.proofs.Acts.{kept_pruning, kept_hear}
use Rattle.client_model.proofs.Staying.{Stays, page_kept}
use Rattle.client_model.proofs.Needs.{Needs, prunes_at_ask}
use Rattle.client_model.proofs.Takes.{take_by}
use Rattle.world_laws.proofs.Frames.{Frame, frames, live_one}
use Rattle.world_laws.proofs.Births.{new_frame, version_of}
use Rattle.world_laws.proofs.Holding.{HoldsOf, ends_kind, one_after, entry_after}
use Rattle.world_laws.proofs.Messages.{Quiet, Applies, GoesTo, take_goes, fire_goes}

-- how a version's text fits its analysis
abbrev pub Fit : Type 1
Fit = ℕ → Text → Analysis → Type 0

-- a module that was fetched, with its text
abbrev pub StagedFits : Fit → Option Entry → Option Text → Type 0
StagedFits Q None t = ⊤
StagedFits Q (Some e) None = ⊥
StagedFits Q (Some e) (Some t) = Q e.version t e.analysis

-- a module of the page, with its live instance
abbrev pub LiveFits : Fit → Option Entry → Option Frame → Type 0
LiveFits Q None f = ⊤
LiveFits Q (Some e) None = ⊤
LiveFits Q (Some e) (Some f) = (f.version ≡ e.version) × (f.exports ≡ e.analysis.exports) × Q e.version f.text e.analysis

abbrev pub PlanTexts : (Name → Fit) → Option Plan → List (Name × Text) → Type 0
PlanTexts P None texts = ⊤
PlanTexts P (Some p) texts = (n : Name) → StagedFits (P n) (at p.staged n) (at texts n)

-- what was fetched fits, and so does what is live
pub record Fits (P : Name → Fit) (page : Page) (texts : List (Name × Text)) (fs : List Frame) : Type 0 where
  pub planned : PlanTexts P page.plan texts
  pub live : (n : Name) → LiveFits (P n) (at page.view n) (live_one fs n)

abbrev pub FitsIn : (Name → Fit) → Runtime → Type 0
FitsIn P r = Fits P r.page r.texts (frames r.instances)

-- a text that comes fits what transforming it gives
abbrev pub MessageFits : Language → (Name → Fit) → ServerMsg → Type 0
MessageFits language P (msg.Text n v t) = (a : Analysis) → language.transformed n t ≡ Good a → P n v t a
MessageFits language P m = ⊤

-- What is fetched.

stage_if : (P : Name → Fit) (n : Name) (v : ℕ) (t : Text) (a : Analysis) (m : Name) (b : Bool) (e : Option Entry) (x : Option Text) → (b ≡ true → n ≡ m) → P n v t a → StagedFits (P m) e x → StagedFits (P m) (if b then Some (record { version = v; analysis = a }) else e) (if b then Some t else x)
stage_if P n v t a m true e x same fit old = subst (λ k. P k v t a) (same refl) fit
stage_if P n v t a m false e x same fit old = old

module _ (language : Language) (P : Name → Fit) where
  abbrev Texts : Runtime → Type 0
  Texts r = PlanTexts P r.page.plan r.texts

  stage_texts : (o : Outcome) (p : Plan) (n : Name) (v : ℕ) (t : Text) (r : Runtime) → r.page.plan ≡ Some p → ((a : Analysis) → o ≡ Good a → P n v t a) → Texts r → Texts (stage o p n v t r).0
  stage_texts (Good a) p n v t r e fit old = λ m.
      let entry : Entry = record { version = v; analysis = a } in
      subst (λ o. StagedFits (P m) o (at (with_row n t r.texts) m)) (sym (at_with_row n entry p.staged m))
      (subst (λ x. StagedFits (P m) (if same_name n m then Some entry else at p.staged m) x) (sym (at_with_row n t r.texts m))
      (stage_if P n v t a m (same_name n m) (at p.staged m) (at r.texts m) (same_true n m) (fit a refl) (subst (λ q. PlanTexts P q r.texts) e old m)))
  stage_texts (Bad fault) p n v t r e fit old = old

  stage_in_texts : (q : Option Plan) (n : Name) (v : ℕ) (t : Text) (r : Runtime) → r.page.plan ≡ q → MessageFits language P (msg.Text n v t) → Texts r → Texts (stage_in q language n v t r).0
  stage_in_texts None n v t r e fit old = old
  stage_in_texts (Some p) n v t r e fit old = stage_texts (language.transformed n t) p n v t r e fit old

  apply_texts : (q : Option Plan) (r : Runtime) → Texts r → Texts (apply_in q language r).0
  apply_texts None r old = old
  apply_texts (Some p) r old = tt

  abort_texts : (q : Option Plan) (r : Runtime) → Texts r → Texts (abort_in q language r).0
  abort_texts None r old = old
  abort_texts (Some p) r old = by (cause_by r.cause language p r)
    where
      by : (o : Option Cause) → Texts (and_then (write_cause o r) (λ s. nothing (record s { page = given_up s.page; texts = []; pairs = []; cause = None }))).0
      by None = tt
      by (Some cause) = tt

  done_texts : (asked : ClientMsg) (r : Runtime) → Texts r → Texts (done asked language r).0
  done_texts (request_is.Hello format names) r old = old
  done_texts request_is.Ask r old = old
  done_texts (request_is.Fetch m) r old = old
  done_texts (request_is.Applied table) r old = apply_texts r.page.plan r old
  done_texts (request_is.Aborted cause m from x) r old = abort_texts r.page.plan r old
  done_texts (request_is.Invalidate m v message) r old = old
  done_texts request_is.Bye r old = old

  refused_texts : (asked : ClientMsg) (r : Runtime) → Texts r → Texts (took_refusal asked r).0
  refused_texts (request_is.Hello format names) r old = old
  refused_texts request_is.Ask r old = old
  refused_texts (request_is.Fetch m) r old = old
  refused_texts (request_is.Applied table) r old = old
  refused_texts (request_is.Aborted cause m from x) r old = old
  refused_texts (request_is.Invalidate m v message) r old = old
  refused_texts request_is.Bye r old = old

  prune_texts : (names : List Name) (r : Runtime) → r.page.plan ≡ None → Texts (answered language request_is.Ask (msg.Prune names) r).0
  prune_texts names r none =
      let k : Stays r (for_each (prune_instance language) (live_of (has names) r) r) = kept_pruning Stays page_kept language names r in
      subst (λ q. PlanTexts P q (for_each (prune_instance language) (live_of (has names) r) r).0.texts) (sym (ap (λ (page : Page). page.plan) k.page ∙ none)) tt

  answered_texts : (asked : ClientMsg) (m : ServerMsg) (r : Runtime) → Needs language asked r → is_answer r.page.loaded asked m ≡ true → MessageFits language P m → Texts r → Texts (answered language asked m r).0
  answered_texts asked (msg.Connected client roots) r n a fit old = λ m. tt
  answered_texts asked (msg.Update replaced updates batch triggered) r n a fit old = λ m. tt
  answered_texts asked (msg.Prune paths) r n a fit old = prune_texts paths r (prunes_at_ask language asked paths r n a).0
  answered_texts asked (msg.FullReload cause path batch triggered) r n a fit old = λ m. tt
  answered_texts asked (msg.Error m row column word) r n a fit old = old
  answered_texts asked (msg.Broken m row column word) r n a fit old = old
  answered_texts asked msg.Idle r n a fit old = old
  answered_texts asked msg.Done r n a fit old = done_texts asked r old
  answered_texts asked (msg.Text m v t) r n a fit old = stage_in_texts r.page.plan m v t r refl fit old
  answered_texts asked (msg.Missing m) r n a fit old = old
  answered_texts asked (msg.NotYet m) r n a fit old = old
  answered_texts asked (msg.Refused code m told kept) r n a fit old = refused_texts asked r old

  take_texts : (r : Runtime) (m : ServerMsg) → MessageFits language P m → Texts r → Texts (take language r m).after
  take_texts r m fit old = take_by language r m (λ did. Texts did.0) old old (λ asked n a. answered_texts asked m r n a fit old)

  fire_texts : (r : Runtime) (n : Name) (value : Value) → Texts r → Texts (fire language n value r).after
  fire_texts r n value old = fire_by language r n value (λ did. Texts did.0) old
      (λ loaded none.
      let k : Stays r (hear_all language n value r) = kept_hear Stays page_kept language n value r in
      subst (λ q. PlanTexts P q (hear_all language n value r).0.texts) (sym (ap (λ (page : Page). page.plan) k.page ∙ none)) tt)

-- each text that comes fits
abbrev pub IncomingFits : Language → (Name → Fit) → Incoming → Type 0
IncomingFits language P (came_is.message m) = MessageFits language P m
IncomingFits language P (came_is.event n value) = ⊤

-- What is live.

quiet_fits : (Q : Fit) (old new : Option Entry) (before after : Option Frame) → (after ≡ None) ⊎ (after ≡ before) → (new ≡ None) ⊎ (new ≡ old) → LiveFits Q old before → LiveFits Q new after
quiet_fits Q old new before after l (inl e) h = subst (λ o. LiveFits Q o after) (sym e) tt
quiet_fits Q old new before after (inl l) (inr e) h = subst (LiveFits Q new) (sym l) (ended new)
  where
    ended : (o : Option Entry) → LiveFits Q o None
    ended None = tt
    ended (Some e) = tt
quiet_fits Q old new before after (inr l) (inr e) h = subst (LiveFits Q new) (sym l) (subst (λ o. LiveFits Q o before) (sym e) h)

new_fits : (Q : Fit) (o : Option Entry) (t : Option Text) (new : Frame) → new.version ≡ version_of o → new.exports ≡ exports_of o → new.text ≡ text_or_none t → StagedFits Q o t → LiveFits Q o (Some new)
new_fits Q None t new v x e s = tt
new_fits Q (Some o) None new v x e s = absurd s
new_fits Q (Some o) (Some t) new v x e s = (v, x, subst (λ y. Q o.version y o.analysis) (sym e) s)

fits_now : (Q : Fit) (kind : PlanKind) (met replaced : Bool) (old staged : Option Entry) (t : Option Text) (one : Option Frame) (new : Frame)
    → new.version ≡ version_of (kept_or_staged kind replaced old staged) → new.exports ≡ exports_of (kept_or_staged kind replaced old staged) → new.text ≡ text_or_none t → StagedFits Q staged t → LiveFits Q old one
    → LiveFits Q (if met then kept_or_staged kind replaced old staged else unmet_entry kind old) (if not (is_kept_kind kind replaced old) && met then Some new else (if ends_kind kind replaced (not (is_kept_kind kind replaced old) && met) then None else one))
fits_now Q Load true replaced old staged t one new v x e s l = new_fits Q staged t new v x e s
fits_now Q Load false replaced old staged t one new v x e s l = tt
fits_now Q Reload true replaced old staged t one new v x e s l = new_fits Q staged t new v x e s
fits_now Q Reload false replaced old staged t one new v x e s l = tt
fits_now Q Update true true old staged t one new v x e s l = new_fits Q staged t new v x e s
fits_now Q Update false true old staged t one new v x e s l = l
fits_now Q Update true false None staged t one new v x e s l = new_fits Q staged t new v x e s
fits_now Q Update false false None staged t one new v x e s l = tt
fits_now Q Update true false (Some o) staged t one new v x e s l = l
fits_now Q Update false false (Some o) staged t one new v x e s l = l

module _ (language : Language) (P : Name → Fit) (r : Runtime) (old : HoldsOf r) (h : FitsIn P r) where
  live_fits : (page : Page) (after : List Frame) → Quiet r.page.view page.view (frames r.instances) after ⊎ Applies language r page after → (n : Name) → LiveFits (P n) (at page.view n) (live_one after n)
  live_fits page after (inl q) n = quiet_fits (P n) (at r.page.view n) (at page.view n) (live_one (frames r.instances) n) (live_one after n) (q.lives n) (q.entries n) (h.live n)
  live_fits page after (inr a) n =
      let p : Plan = a.plan in
      subst (λ o. LiveFits (P n) o (live_one after n)) (sym (ap (λ (g : Page). at g.view n) a.page_is ∙ entry_after p r a.plan_is a.needed old n))
      (subst (LiveFits (P n) (if has (met_of r.roots p r.page.view) n then kept_or_staged p.kind (has p.replaced n) (at r.page.view n) (at p.staged n) else unmet_entry p.kind (at r.page.view n)))
      (sym (ap (λ fs. live_one fs n) a.frames_are ∙ one_after p r a.plan_is a.needed old n))
      (fits_now (P n) p.kind (has (met_of r.roots p r.page.view) n) (has p.replaced n) (at r.page.view n) (at p.staged n) (at r.texts n) (live_one (frames r.instances) n) (new_frame p r n) refl refl refl
      (subst (λ q. PlanTexts P q r.texts) a.plan_is h.planned n) (h.live n)))

  -- what comes keeps it
  goes_fit : (s : Runtime) → GoesTo language r s → PlanTexts P s.page.plan s.texts → FitsIn P s
  goes_fit s g texts = record { planned = texts; live = live_fits s.page (frames s.instances) g.moves }

  pub take_fits : (m : ServerMsg) → MessageFits language P m → FitsIn P (take language r m).after
  take_fits m fit = goes_fit (take language r m).after (take_goes language r m old) (take_texts language P r m fit h.planned)

  pub fire_fits : (n : Name) (value : Value) → FitsIn P (fire language n value r).after
  fire_fits n value = goes_fit (fire language n value r).after (fire_goes language r n value old) (fire_texts language P r n value h.planned)

  pub met_fits : (came : Incoming) → IncomingFits language P came → FitsIn P (met language came r).0
  met_fits (came_is.message m) fit = take_fits m fit
  met_fits (came_is.event n value) fit = fire_fits n value

-- what fits in one way fits in a weaker one
pub fits_too : (P R : Name → Fit) → ((n : Name) (v : ℕ) (t : Text) (a : Analysis) → P n v t a → R n v t a) → (r : Runtime) → FitsIn P r → FitsIn R r
fits_too P R f r h = record { planned = by r.page.plan h.planned; live = λ n. live n (at r.page.view n) (live_one (frames r.instances) n) (h.live n) }
  where
    staged : (n : Name) (o : Option Entry) (t : Option Text) → StagedFits (P n) o t → StagedFits (R n) o t
    staged n None t s = tt
    staged n (Some e) None s = s
    staged n (Some e) (Some t) s = f n e.version t e.analysis s

    by : (q : Option Plan) → PlanTexts P q r.texts → PlanTexts R q r.texts
    by None s = tt
    by (Some p) s = λ n. staged n (at p.staged n) (at r.texts n) (s n)

    live : (n : Name) (o : Option Entry) (i : Option Frame) → LiveFits (P n) o i → LiveFits (R n) o i
    live n None i l = tt
    live n (Some e) None l = tt
    live n (Some e) (Some i) l = (l.0, l.1, f n e.version i.text e.analysis l.2)
