-- A text that came for the plan under way: the plan needed it, and goes on with it.
use Rattle.std.proofs.Common.{◌≡◌, ℕ, Bool, true, false, List, [], refl, ap, sym, ◌∙◌}
use Rattle.std.specs.Prelude.{◌==◌, if◌then◌else◌, OnOk, Option, Some, None, Result, Ok, Err}
use Rattle.std.proofs.Math.Path.{subst}
use Rattle.std.proofs.lemmas.Bool.{false≢true}
use Rattle.hmr_types.specs.declared.analysis.Outcome.{Outcome}
use Rattle.hmr_types.specs.declared.analysis.Outcome.TheVariants.{Good, Bad}
use Rattle.output_lines.specs.declared.out_line.OutLine.{OutLine}
use Rattle.update_msgs.specs.Writable.{IsVersion}
use Rattle.update_msgs.specs.declared.message.ServerMsg.TheVariants as msg
use Rattle.core_model.specs.Names.{Name, with_row}
use Rattle.core_model.specs.Page.{Plan}
use Rattle.core_model.specs.Sources.{Text}
use Rattle.core_model.specs.View.{View}
use Rattle.core_model.proofs.Naming.{same_true}
use Rattle.client_model.specs.Answering.{stage, stage_in}
use Rattle.client_model.specs.Expecting.{is_answer}
use Rattle.client_model.specs.Linking.{link_cause, next_needed}
use Rattle.client_model.specs.Requesting.{abort_message, apply_or_abort, carry_on, fetch_or_finish, hello, request, request_by}
use Rattle.client_model.specs.Runtime as model
use Rattle.client_model.specs.Runtime.{Runtime, broken}
use Rattle.module_language.specs.ModuleLanguage.{module_language}
use Rattle.client_plan.specs.Planned.{IsPlanned}
use Rattle.client_plan.specs.UnderWay.{IsFetched, IsUnderWay, plan_with, with_cause_of}
use Rattle.client_plan.specs.declared.under_way.UnderWay.{UnderWay}
use Rattle.runtime_state.specs.Becoming.{Becomes}
use Rattle.plan_steps.specs.Fetching.{IsStaged, IsStagedIn}
use Rattle.runtime_state.specs.Standing.{IsPlan, IsPlannedWell, IsSound, Keeps}
use Rattle.runtime_state.specs.declared.runtime.HotRuntime.{HotRuntime}
use Rattle.runtime_state.proofs.Keeping.{plan_kept, plan_sound, run_with, with_under_way}

module _ (loaded : Bool) (n : Name) (version : ℕ) (text : Text) where
  given_up : (cause : model.Cause) → is_answer loaded (abort_message cause) (msg.Text n version text) ≡ true → {X : Type 0} → X
  given_up (model.missing m) e = absurd (false≢true e)
  given_up (model.broken m) e = absurd (false≢true e)
  given_up (model.unlinked m d x) e = absurd (false≢true e)

  ended : (o : Option model.Cause) (p : Plan) (r : Runtime) → is_answer loaded (apply_or_abort o p r) (msg.Text n version text) ≡ true → {X : Type 0} → X
  ended None p r e = absurd (false≢true e)
  ended (Some cause) p r e = given_up cause e

  fetched_by : (o : Option Name) (p : Plan) (r : Runtime) → next_needed p r ≡ o → is_answer loaded (fetch_or_finish o (link_cause module_language p r) p r) (msg.Text n version text) ≡ true → next_needed p r ≡ Some n
  fetched_by None p r is e = ended (link_cause module_language p r) p r e
  fetched_by (Some m) p r is e = is ∙ ap Some (same_true m n e)

  carried_by : (o : Option model.Cause) (p : Plan) (r : Runtime) → is_answer loaded (carry_on o module_language p r) (msg.Text n version text) ≡ true → next_needed p r ≡ Some n
  carried_by (Some cause) p r e = given_up cause e
  carried_by None p r e = fetched_by (next_needed p r) p r refl e

  -- a text is an answer where the plan needs its module
  pub needs : (p : Plan) (r : Runtime) → r.page.plan ≡ Some p → is_answer loaded (request module_language r) (msg.Text n version text) ≡ true → next_needed p r ≡ Some n
  needs p r is e = by (r.client == 0) e
    where
      by : (b : Bool) → is_answer loaded (if b then hello r else request_by r.page.plan module_language r) (msg.Text n version text) ≡ true → next_needed p r ≡ Some n
      by true t = absurd (false≢true t)
      by false t = carried_by r.cause p r (subst (λ o. is_answer loaded (request_by o module_language r) (msg.Text n version text) ≡ true) is t)

-- the client of a plan for which a text came
pub staged_becomes : {F : Type 0} (n : Name) (version : ℕ) (text : Text) (r : Runtime) (h : HotRuntime F) (u v : UnderWay) (tells : List OutLine) → Keeps r h → IsSound h → h.plan ≡ Some u
    → is_answer h.loaded (request module_language r) (msg.Text n version text) ≡ true
    → ((p : Plan) → IsUnderWay r p u → next_needed p r ≡ Some n → IsFetched (module_language.transformed n text) r p n version text v)
    → (IsPlanned h.loaded u → IsPlanned h.loaded v) → tells ≡ [] → Becomes (stage_in r.page.plan module_language n version text r) (with_under_way h (Some v)) tells
staged_becomes {F} n version text r h u v tells k s is answers f planned silent = by r.page.plan refl (subst (IsPlan r r.page.plan) is k.plan)
  where
    sound : IsSound (with_under_way h (Some v))
    sound = plan_sound h (Some v) (planned (subst (IsPlannedWell h.loaded) is s.plan)) s

    as_read : (p : Plan) → r.page.plan ≡ Some p → (o : Outcome) → IsFetched o r p n version text v → Becomes (stage o p n version text r) (with_under_way h (Some v)) tells
    as_read p e (Good a) i = record {
      sound = sound;
      keeps = plan_kept r h (Some (plan_with p n (record { version = version; analysis = a }))) (with_row n text r.texts) r.pairs r.cause (Some v) k i;
      lines = silent;
    }
    as_read p e (Bad fault) i = record {
      sound = sound;
      keeps = plan_kept r h r.page.plan r.texts r.pairs (Some (broken n)) (Some v) k (subst (λ o. IsPlan (with_cause_of (broken n) r) o (Some v)) (sym e) i);
      lines = silent;
    }

    by : (o : Option Plan) → r.page.plan ≡ o → IsPlan r o (Some u) → Becomes (stage_in o module_language n version text r) (with_under_way h (Some v)) tells
    by None e i = absurd i
    by (Some p) e i = as_read p e (module_language.transformed n text) (f p i (needs h.loaded n version text p r e answers))

-- with no plan under way it is of no account
pub none_staged : {F : Type 0} (n : Name) (version : ℕ) (text : Text) (r : Runtime) (h : HotRuntime F) (u : Option UnderWay) (tells : List OutLine) → Keeps r h → IsSound h → h.plan ≡ None → u ≡ None → tells ≡ []
    → Becomes (stage_in r.page.plan module_language n version text r) (with_under_way h u) tells
none_staged {F} n version text r h u tells k s is gone silent =
    subst (λ left. Becomes (stage_in r.page.plan module_language n version text r) (with_under_way h left) tells) (sym gone) (by r.page.plan refl (subst (IsPlan r r.page.plan) is k.plan))
  where
    by : (o : Option Plan) → r.page.plan ≡ o → IsPlan r o None → Becomes (stage_in o module_language n version text r) (with_under_way h None) tells
    by None e i = record { sound = plan_sound h None tt s; keeps = subst (λ q. Keeps (run_with r q r.texts r.pairs r.cause) (with_under_way h None)) (sym e) (plan_kept r h None r.texts r.pairs r.cause None k tt); lines = silent }
    by (Some p) e i = absurd i

-- the plan with the text, where memory didn't run out
pub staged_in : {T E : Type 0} (result : Result T E) (u v : UnderWay) (roots : List Name) (view : View) (n : Name) (version : ℕ) (text : Text)
    → ((r : Runtime) (p : Plan) → r.roots ≡ roots → r.page.view ≡ view → IsUnderWay r p u → next_needed p r ≡ Some n → OnOk result (IsFetched (module_language.transformed n text) r p n version text v))
    → ((loaded : Bool) → IsPlanned loaded u → IsVersion version → OnOk result (IsPlanned loaded v)) → OnOk result (IsStaged u roots view n version text v)
staged_in (Ok x) u v roots view n version text f g = record { fetched = f; planned = g }
staged_in (Err e) u v roots view n version text f g = tt

-- the client, whether a plan is under way or not
pub text_came : {F : Type 0} (n : Name) (version : ℕ) (text : Text) (roots : List Name) (r : Runtime) (h : HotRuntime F) (left : Option UnderWay) (tells : List OutLine) → Keeps r h → IsSound h → IsVersion version
    → is_answer h.loaded (request module_language r) (msg.Text n version text) ≡ true → r.roots ≡ roots → (h.plan ≡ None → left ≡ None) → ((u : UnderWay) → h.plan ≡ Some u → IsStagedIn u roots h.view n version text left) → tells ≡ []
    → Becomes (stage_in r.page.plan module_language n version text r) (with_under_way h left) tells
text_came {F} n version text roots r h left tells k s counted answers same none some silent = by h.plan refl
  where
    with_plan : (u : UnderWay) → h.plan ≡ Some u → (o : Option UnderWay) → IsStagedIn u roots h.view n version text o → Becomes (stage_in r.page.plan module_language n version text r) (with_under_way h o) tells
    with_plan u e None i = absurd i
    with_plan u e (Some v) i = staged_becomes n version text r h u v tells k s e answers (λ p under needed. i.fetched r p same k.view under needed) (λ planned. i.planned h.loaded planned counted) silent

    by : (o : Option UnderWay) → h.plan ≡ o → Becomes (stage_in r.page.plan module_language n version text r) (with_under_way h left) tells
    by None e = none_staged n version text r h left tells k s e (none e) silent
    by (Some u) e = with_plan u e left (some u e)
