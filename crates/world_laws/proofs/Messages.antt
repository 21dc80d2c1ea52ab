-- Each thing that comes to a client leaves what holds of it; it applies a plan, or only takes modules away.
use Rattle.std.proofs.Common.{◌≡◌, ◌⊎◌, inl, inr, ℕ, ◌≤◌, Bool, true, false, List, [], ◌∷◌, length, refl, ap, sym, ◌∙◌, arith}
use Rattle.std.specs.Prelude.{map, ◌==◌, Option, Some, None, is_some, if◌then◌else◌}
use Rattle.std.proofs.Math.Path.{subst}
use Rattle.std.proofs.lemmas.Bool.{false≢true}
use Rattle.hmr_types.specs.declared.analysis.Outcome.{Outcome}
use Rattle.hmr_types.specs.declared.analysis.Outcome.TheVariants.{Good, Bad}
use Rattle.hmr_types.specs.declared.words.PlanKind.{PlanKind}
use Rattle.hmr_types.specs.declared.words.PlanKind.TheVariants.{Load, Reload, Update}
use Rattle.update_msgs.specs.declared.message.ClientMsg.{ClientMsg}
use Rattle.update_msgs.specs.declared.message.ClientMsg.TheVariants as request_is
use Rattle.update_msgs.specs.declared.message.ServerMsg.{ServerMsg}
use Rattle.update_msgs.specs.declared.message.ServerMsg.TheVariants as msg
use Rattle.core_model.specs.Names.{Name, same_name, has, at, with_row}
use Rattle.core_model.specs.Sources.{Text}
use Rattle.core_model.specs.View.{View, Entry, is_in}
use Rattle.core_model.specs.Page.{Plan, Page, begun, staged, given_up, forced_too, applied, pruned}
use Rattle.core_model.proofs.Naming.{not_true}
use Rattle.core_model.proofs.Tables.{at_with_row}
use Rattle.core_laws.proofs.Looking.{at_without_all}
use Rattle.client_model.specs.Language.{Language}
use Rattle.client_model.specs.Runtime.{Runtime, Opening, new_runtime, Cause, nothing, and_then, for_each, write}
use Rattle.client_model.specs.Linking.{next_needed, link_cause}
use Rattle.client_model.specs.Requesting.{cause_by}
use Rattle.client_model.specs.Applying.{apply, prune, prune_instance, live_of}
use Rattle.client_model.specs.Answering.{accept_line, pair_of, start_reload, start_update, stage, stage_in, apply_in, abort_in, write_cause, done, took_refusal, answered}
use Rattle.client_model.specs.Expecting.{is_answer}
use Rattle.client_model.specs.Taking.{take}
use Rattle.client_model.specs.Firing.{fire, hear_all}
use Rattle.client_model.specs.Past.{Incoming, Past, met, runtime_after}
use Rattle.client_model.specs.Past as came_is
use Rattle.client_model.proofs.Acts.{kept_lines, kept_pruning, kept_hear}
use Rattle.client_model.proofs.Staying.{Stays, page_kept}
use Rattle.client_model.proofs.Needs.{IsDue, Needs, prunes_at_ask}
use Rattle.client_model.proofs.Takes.{take_by}
use Rattle.world_model.proofs.Fitting.{after_batch}
use Rattle.world_laws.proofs.Firings.{fire_by}
use Rattle.hmr_types.specs.declared.value.Value.{Value}
use Rattle.output_lines.specs.declared.out_line.OutLine.TheVariants as line
use Rattle.world_laws.proofs.Members.{none_in}
use Rattle.world_laws.proofs.Frames.{Frame, frames, cut, cut_none, ended_by, live_one, live_cut, cut_numbered, cut_count, cut_length}
use Rattle.world_laws.proofs.Births.{frames_after, applied_frames, applied_page, applied_client}
use Rattle.world_laws.proofs.Ending.{same_lines, same_hear, ends_prune}
use Rattle.world_laws.specs.KeptClient.{KindFits}
use Rattle.world_laws.proofs.Holding.{PlanFits, Holds, HoldsOf, linked_cut, holds_after, is_ready}

-- some instances ended; modules and live instances are those of before, or gone
pub record Quiet (old new : View) (before after : List Frame) : Type 0 where
  pub lives : (n : Name) → (live_one after n ≡ None) ⊎ (live_one after n ≡ live_one before n)
  pub entries : (n : Name) → (at new n ≡ None) ⊎ (at new n ≡ at old n)
  pub made : length before ≤ length after
  pub ends : ℕ → Bool
  pub cuts : after ≡ cut ends before

-- the plan under way was applied
pub record Applies (language : Language) (r : Runtime) (page : Page) (after : List Frame) : Type 0 where
  pub plan : Plan
  pub plan_is : r.page.plan ≡ Some plan
  pub needed : next_needed plan r ≡ None
  pub linked : link_cause language plan r ≡ None
  pub page_is : page ≡ applied r.roots plan r.page
  pub frames_are : after ≡ frames_after plan r

pub record Goes (language : Language) (r : Runtime) (client : ℕ) (page : Page) (texts : List (Name × Text)) (after : List Frame) : Type 0 where
  pub holds : Holds client page texts after
  pub moves : Quiet r.page.view page.view (frames r.instances) after ⊎ Applies language r page after

abbrev pub GoesTo : Language → Runtime → Runtime → Type 0
GoesTo language r s = Goes language r s.client s.page s.texts (frames s.instances)

goes_as : (language : Language) (r : Runtime) (client : ℕ) (page : Page) (texts : List (Name × Text)) (after : List Frame) (c : ℕ) (p : Page) (fs : List Frame) → client ≡ c → page ≡ p → after ≡ fs → Goes language r c p texts fs → Goes language r client page texts after
goes_as language r client page texts after c p fs e f g h = subst (λ x. Goes language r x page texts after) (sym e) (subst (λ x. Goes language r c x texts after) (sym f) (subst (Goes language r c p texts) (sym g) h))

-- the page keeps its modules, and stays loaded or not
same_page : (language : Language) (r : Runtime) (client : ℕ) (page : Page) (texts : List (Name × Text)) → HoldsOf r → page.view ≡ r.page.view → page.loaded ≡ r.page.loaded → PlanFits page.plan page.loaded texts → (r.page.loaded ≡ true → (client == 0) ≡ false) → Goes language r client page texts (frames r.instances)
same_page language r client page texts h view loaded fits talks = record {
  holds = record {
    numbered = h.numbered;
    one = h.one;
    live = λ n. h.live n ∙ ap (λ v. is_in v n) (sym view);
    linked = h.linked;
    planned = fits;
    empty = λ e. view ∙ h.empty (sym loaded ∙ e);
    talks = λ e. talks (sym loaded ∙ e);
  };
  moves = inl (record { lives = λ n. inr refl; entries = λ n. inr (ap (λ v. at v n) view); made = omega arith; ends = λ k. false; cuts = sym (cut_none (frames r.instances)) });
}

unchanged : (language : Language) (r : Runtime) → HoldsOf r → GoesTo language r r
unchanged language r h = same_page language r r.client r.page r.texts h refl refl h.planned h.talks

begins : (language : Language) (kind : PlanKind) (replaced : List Name) (r : Runtime) (client : ℕ) → HoldsOf r → KindFits kind r.page.loaded → (r.page.loaded ≡ true → (client == 0) ≡ false) → Goes language r client (begun kind replaced r.page) [] (frames r.instances)
begins language kind replaced r client h fits talks = same_page language r client (begun kind replaced r.page) [] h refl refl (fits, λ n e. absurd (false≢true e)) talks

update_goes : (language : Language) (replaced : List Name) (pairs : List (Name × Name)) (r : Runtime) → HoldsOf r → GoesTo language r (start_update replaced pairs r).0
update_goes language replaced pairs r h =
    let k : Stays r (for_each (λ pair t. write (accept_line t.client pair) t) pairs r) = kept_lines Stays page_kept language (λ pair t. accept_line t.client pair) pairs r in
    let s : Runtime = (for_each (λ pair t. write (accept_line t.client pair) t) pairs r).0 in
    goes_as language r s.client (begun Update replaced s.page) [] (frames s.instances) r.client (begun Update replaced r.page) (frames r.instances) k.client (ap (begun Update replaced) k.page) (same_lines language (λ pair t. accept_line t.client pair) pairs r)
    (begins language Update replaced r r.client h tt h.talks)

-- A prune.

prune_goes : (language : Language) (names : List Name) (r : Runtime) → HoldsOf r → r.page.plan ≡ None → r.page.loaded ≡ true → GoesTo language r (prune language names r).0
prune_goes language names r h none loaded =
    let s : Runtime = (for_each (prune_instance language) (live_of (has names) r) r).0 in
    let k : Stays r (for_each (prune_instance language) (live_of (has names) r) r) = kept_pruning Stays page_kept language names r in
    goes_as language r s.client (pruned names s.page) s.texts (frames s.instances) r.client (pruned names r.page) (cut (ended_by (has names) (frames r.instances)) (frames r.instances)) k.client (ap (pruned names) k.page) (ends_prune language names r)
    (record {
      holds = record {
        numbered = cut_numbered (ended_by (has names) (frames r.instances)) (frames r.instances) h.numbered;
        one = λ n. omega (arith, cut_count (ended_by (has names) (frames r.instances)) (frames r.instances) n, h.one n);
        live = λ n. ap is_some (live_cut (has names) (frames r.instances) h.numbered n) ∙ both (has names n) (live_one (frames r.instances) n) (at r.page.view n) (h.live n) ∙ ap is_some (sym (at_without_all names r.page.view n));
        linked = linked_cut (ended_by (has names) (frames r.instances)) (frames r.instances) h.linked;
        planned = subst (λ q. PlanFits q r.page.loaded s.texts) (sym none) tt;
        empty = λ e. absurd (false≢true (sym e ∙ loaded));
        talks = h.talks;
      };
      moves = inl (record {
        lives = λ n. either (has names n) (live_one (frames r.instances) n) (live_cut (has names) (frames r.instances) h.numbered n);
        entries = λ n. either_entry (has names n) (at r.page.view n) (at_without_all names r.page.view n);
        made = omega (arith, cut_length (ended_by (has names) (frames r.instances)) (frames r.instances));
        ends = ended_by (has names) (frames r.instances);
        cuts = refl;
      });
    })
  where
    both : (b : Bool) (o : Option Frame) (e : Option Entry) → is_some o ≡ is_some e → is_some (if b then None else o) ≡ is_some (if b then None else e)
    both true o e s = refl
    both false o e s = s

    either : {x : Option Frame} (b : Bool) (o : Option Frame) → x ≡ (if b then None else o) → (x ≡ None) ⊎ (x ≡ o)
    either true o e = inl e
    either false o e = inr e

    either_entry : {x : Option Entry} (b : Bool) (o : Option Entry) → x ≡ (if b then None else o) → (x ≡ None) ⊎ (x ≡ o)
    either_entry true o e = inl e
    either_entry false o e = inr e

-- A fetch.

stage_fits : (p : Plan) (n : Name) (e : Entry) (t : Text) (texts : List (Name × Text)) → ((m : Name) → is_some (at p.staged m) ≡ true → is_some (at texts m) ≡ true) → (m : Name) → is_some (at (with_row n e p.staged) m) ≡ true → is_some (at (with_row n t texts) m) ≡ true
stage_fits p n e t texts h m s = ap is_some (at_with_row n t texts m) ∙ by (same_name n m) (h m) (sym (ap is_some (at_with_row n e p.staged m)) ∙ s)
  where
    by : (b : Bool) → (is_some (at p.staged m) ≡ true → is_some (at texts m) ≡ true) → is_some (if b then Some e else at p.staged m) ≡ true → is_some (if b then Some t else at texts m) ≡ true
    by true f g = refl
    by false f g = f g

stage_goes : (language : Language) (o : Outcome) (p : Plan) (n : Name) (v : ℕ) (t : Text) (r : Runtime) → HoldsOf r → r.page.plan ≡ Some p → GoesTo language r (stage o p n v t r).0
stage_goes language (Good a) p n v t r h e =
    let fits : PlanFits (Some p) r.page.loaded r.texts = subst (λ q. PlanFits q r.page.loaded r.texts) e h.planned in
    same_page language r r.client (staged p n (record { version = v; analysis = a }) r.page) (with_row n t r.texts) h refl refl (fits.0, stage_fits p n (record { version = v; analysis = a }) t r.texts fits.1) h.talks
stage_goes language (Bad fault) p n v t r h e = unchanged language r h

stage_in_goes : (q : Option Plan) (language : Language) (n : Name) (v : ℕ) (t : Text) (r : Runtime) → HoldsOf r → r.page.plan ≡ q → GoesTo language r (stage_in q language n v t r).0
stage_in_goes None language n v t r h e = unchanged language r h
stage_in_goes (Some p) language n v t r h e = stage_goes language (language.transformed n t) p n v t r h e

-- The end of a plan.

apply_goes : (q : Option Plan) (language : Language) (r : Runtime) → HoldsOf r → r.page.plan ≡ q → ((p : Plan) → r.page.plan ≡ Some p → IsDue language p r) → (r.client == 0) ≡ false → GoesTo language r (apply_in q language r).0
apply_goes None language r h e due counted = unchanged language r h
apply_goes (Some p) language r h e due counted =
    let s : Runtime = (apply language p r).0 in
    let frames_are : frames s.instances ≡ frames_after p r = applied_frames language p r (is_ready p r e (due p e).0 h) in
    goes_as language r s.client s.page [] (frames s.instances) r.client (applied r.roots p r.page) (frames_after p r) (applied_client language p r) (applied_page language p r) frames_are
    (record { holds = holds_after p r e (due p e).0 h counted; moves = inr (record { plan = p; plan_is = e; needed = (due p e).0; linked = (due p e).1; page_is = refl; frames_are = refl }) })

abort_goes : (q : Option Plan) (language : Language) (r : Runtime) → HoldsOf r → GoesTo language r (abort_in q language r).0
abort_goes None language r h = unchanged language r h
abort_goes (Some p) language r h = by (cause_by r.cause language p r)
  where
    by : (o : Option Cause) → GoesTo language r (and_then (write_cause o r) (λ s. nothing (record s { page = given_up s.page; texts = []; pairs = []; cause = None }))).0
    by None = same_page language r r.client (given_up r.page) [] h refl refl tt h.talks
    by (Some cause) = same_page language r r.client (given_up r.page) [] h refl refl tt h.talks

-- Every answer.

not_loaded : (b : Bool) → (b ≡ true → false ≡ true) → b ≡ false
not_loaded true f = sym (f refl)
not_loaded false f = refl

connects : (language : Language) (asked : ClientMsg) (client : ℕ) (roots : List Name) (r : Runtime) → HoldsOf r → Needs language asked r → is_answer r.page.loaded asked (msg.Connected client roots) ≡ true → r.page.loaded ≡ false
connects language (request_is.Hello format names) client roots r h n a = not_loaded r.page.loaded (λ l. sym (h.talks l) ∙ n)
connects language request_is.Ask client roots r h n a = not_true r.page.loaded a
connects language (request_is.Fetch m) client roots r h n a = absurd (false≢true a)
connects language (request_is.Applied table) client roots r h n a = absurd (false≢true a)
connects language (request_is.Aborted cause m from x) client roots r h n a = absurd (false≢true a)
connects language (request_is.Invalidate m v message) client roots r h n a = absurd (false≢true a)
connects language request_is.Bye client roots r h n a = absurd (false≢true a)

module _ (language : Language) (r : Runtime) (h : HoldsOf r) where
  done_goes : (asked : ClientMsg) → Needs language asked r → GoesTo language r (done asked language r).0
  done_goes (request_is.Hello format names) n = unchanged language r h
  done_goes request_is.Ask n = unchanged language r h
  done_goes (request_is.Fetch m) n = unchanged language r h
  done_goes (request_is.Applied table) n = apply_goes r.page.plan language r h refl n.1 n.0
  done_goes (request_is.Aborted cause m from x) n = abort_goes r.page.plan language r h
  done_goes (request_is.Invalidate m v message) n = same_page language r r.client (forced_too m r.page) r.texts h refl refl h.planned h.talks
  done_goes request_is.Bye n = unchanged language r h

  refused_goes : (asked : ClientMsg) → GoesTo language r (took_refusal asked r).0
  refused_goes (request_is.Hello format names) = unchanged language r h
  refused_goes request_is.Ask = unchanged language r h
  refused_goes (request_is.Fetch m) = unchanged language r h
  refused_goes (request_is.Applied table) = unchanged language r h
  refused_goes (request_is.Aborted cause m from x) = unchanged language r h
  refused_goes (request_is.Invalidate m v message) = unchanged language r h
  refused_goes request_is.Bye = unchanged language r h

  answered_goes : (asked : ClientMsg) (m : ServerMsg) → Needs language asked r → is_answer r.page.loaded asked m ≡ true → GoesTo language r (answered language asked m r).0
  answered_goes asked (msg.Connected client roots) n a =
      let e : r.page.loaded ≡ false = connects language asked client roots r h n a in
      begins language Load [] r client h e (λ l. absurd (false≢true (sym e ∙ l)))
  answered_goes asked (msg.Update replaced updates batch triggered) n a = after_batch batch triggered r (start_update replaced (map pair_of updates)) (GoesTo language r) (update_goes language replaced (map pair_of updates) r h)
  answered_goes asked (msg.Prune paths) n a = let k = prunes_at_ask language asked paths r n a in prune_goes language paths r h k.0 k.1
  answered_goes asked (msg.FullReload cause path batch triggered) n a = after_batch batch triggered r (start_reload (line.Reload r.client cause path)) (GoesTo language r) (begins language Reload [] r r.client h tt h.talks)
  answered_goes asked (msg.Error m row column word) n a = unchanged language r h
  answered_goes asked (msg.Broken m row column word) n a = unchanged language r h
  answered_goes asked msg.Idle n a = unchanged language r h
  answered_goes asked msg.Done n a = done_goes asked n
  answered_goes asked (msg.Text m v t) n a = stage_in_goes r.page.plan language m v t r h refl
  answered_goes asked (msg.Missing m) n a = unchanged language r h
  answered_goes asked (msg.NotYet m) n a = unchanged language r h
  answered_goes asked (msg.Refused number m told kept) n a = refused_goes asked

-- Every message.

pub take_goes : (language : Language) (r : Runtime) (m : ServerMsg) → HoldsOf r → GoesTo language r (take language r m).after
take_goes language r m h = take_by language r m (λ did. GoesTo language r did.0) (unchanged language r h) (unchanged language r h) (λ asked n a. answered_goes language r h asked m n a)

-- An event that is fired.

hear_goes : (language : Language) (n : Name) (value : Value) (r : Runtime) → HoldsOf r → r.page.plan ≡ None → GoesTo language r (hear_all language n value r).0
hear_goes language n value r h none =
    let s : Runtime = (hear_all language n value r).0 in
    let k : Stays r (hear_all language n value r) = kept_hear Stays page_kept language n value r in
    goes_as language r s.client s.page s.texts (frames s.instances) r.client r.page (frames r.instances) k.client k.page (same_hear language n value r)
    (same_page language r r.client r.page s.texts h refl refl (subst (λ q. PlanFits q r.page.loaded s.texts) (sym none) tt) h.talks)

pub fire_goes : (language : Language) (r : Runtime) (n : Name) (value : Value) → HoldsOf r → GoesTo language r (fire language n value r).after
fire_goes language r n value h = fire_by language r n value (λ did. GoesTo language r did.0) (unchanged language r h) (λ loaded none. hear_goes language n value r h none)

-- Each thing that comes.

pub met_goes : (language : Language) (r : Runtime) (came : Incoming) → HoldsOf r → GoesTo language r (met language came r).0
met_goes language r (came_is.message m) h = take_goes language r m h
met_goes language r (came_is.event n value) h = fire_goes language r n value h

pub new_holds : (opening : Opening) → HoldsOf (new_runtime opening)
new_holds opening = record {
  numbered = tt;
  one = λ n. omega arith;
  live = λ n. refl;
  linked = λ f c. absurd (none_in f c);
  planned = tt;
  empty = λ e. refl;
  talks = λ e. absurd (false≢true e);
}

-- every past keeps it
pub run_holds : (language : Language) (opening : Opening) (past : Past) → HoldsOf (runtime_after language opening past)
run_holds language opening [] = new_holds opening
run_holds language opening (came ∷ past) = (met_goes language (runtime_after language opening past) came (run_holds language opening past)).holds
