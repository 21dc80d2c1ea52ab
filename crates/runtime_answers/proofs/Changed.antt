-- What becomes of the plan under way: a cause was found, or it is given up.
use Rattle.std.proofs.Common.{◌≡◌, Bool, true, List, [], refl, ap, sym, ◌∙◌}
use Rattle.std.specs.Prelude.{◌==◌, if◌then◌else◌, false, Option, Some, None}
use Rattle.std.specs.Option.{option_map}
use Rattle.std.proofs.Math.Path.{subst}
use Rattle.std.proofs.lemmas.Bool.{false≢true}
use Rattle.std.proofs.lemmas.List.{append-nil}
use Rattle.output_lines.specs.declared.out_line.OutLine.{OutLine}
use Rattle.core_model.specs.Page.{Plan}
use Rattle.client_model.specs.Answering.{abort_in, with_cause, write_cause}
use Rattle.client_model.specs.Journal.{lines_of_all}
use Rattle.client_model.specs.Requesting.{carry_on, cause_by, hello, request, request_by}
use Rattle.client_model.specs.Runtime as model
use Rattle.client_model.specs.Runtime.{Runtime}
use Rattle.module_language.specs.ModuleLanguage.{module_language}
use Rattle.client_plan.specs.Planned.{IsPlanned}
use Rattle.client_plan.specs.Telling.{cause_lines}
use Rattle.client_plan.specs.UnderWay.{IsUnderWay, cause_of, is_aborted, with_cause_of}
use Rattle.client_plan.specs.declared.cause.Cause.{Cause}
use Rattle.client_plan.proofs.Caused.{caused}
use Rattle.client_plan.specs.declared.under_way.UnderWay.{UnderWay}
use Rattle.runtime_state.specs.Becoming.{Becomes}
use Rattle.runtime_state.specs.Standing.{IsPlan, IsPlannedWell, IsSound, Keeps}
use Rattle.runtime_state.specs.declared.runtime.HotRuntime.{HotRuntime}
use Rattle.runtime_state.proofs.Keeping.{becomes_of, plan_kept, plan_sound, run_with, with_under_way}

-- the client of a plan for which a cause was found
pub caused_becomes : {F : Type 0} (cause : model.Cause) (r : Runtime) (h : HotRuntime F) (u v : UnderWay) (tells : List OutLine) → Keeps r h → IsSound h → h.plan ≡ Some u
    → ((p : Plan) → IsUnderWay r p u → IsUnderWay (with_cause_of cause r) p v) → (IsPlanned h.loaded u → IsPlanned h.loaded v) → tells ≡ [] → Becomes (with_cause cause r) (with_under_way h (Some v)) tells
caused_becomes cause r h u v tells k s is f planned silent = record {
  sound = plan_sound h (Some v) (planned (subst (IsPlannedWell h.loaded) is s.plan)) s;
  keeps = plan_kept r h r.page.plan r.texts r.pairs (Some cause) (Some v) k (by r.page.plan (subst (IsPlan r r.page.plan) is k.plan));
  lines = silent;
}
  where
    by : (o : Option Plan) → IsPlan r o (Some u) → IsPlan (with_cause_of cause r) o (Some v)
    by None i = absurd i
    by (Some p) i = f p i

-- with no plan under way it is of no account
pub uncaused_becomes : {F : Type 0} (cause : model.Cause) (r : Runtime) (h : HotRuntime F) (u : Option UnderWay) (tells : List OutLine) → Keeps r h → IsSound h → h.plan ≡ None → u ≡ None → tells ≡ [] → Becomes (with_cause cause r) (with_under_way h u) tells
uncaused_becomes cause r h u tells k s is gone silent = subst (λ left. Becomes (with_cause cause r) (with_under_way h left) tells) (sym gone) (record {
  sound = plan_sound h None tt s;
  keeps = plan_kept r h r.page.plan r.texts r.pairs (Some cause) None k (by r.page.plan (subst (IsPlan r r.page.plan) is k.plan));
  lines = silent;
})
  where
    by : (o : Option Plan) → IsPlan r o None → IsPlan (with_cause_of cause r) o None
    by None i = tt
    by (Some p) i = absurd i

wrote : (o : Option model.Cause) (r : Runtime) → (write_cause o r).0 ≡ r
wrote None r = refl
wrote (Some cause) r = refl

wrote_lines : (o : Option model.Cause) (r : Runtime) → lines_of_all r.client (write_cause o r).1 ≡ cause_lines r.client o
wrote_lines None r = refl
wrote_lines (Some cause) r = refl

by_plan : (r : Runtime) → is_aborted (request module_language r) ≡ true → is_aborted (request_by r.page.plan module_language r) ≡ true
by_plan r t = by (r.client == 0) t
  where
    by : (b : Bool) → is_aborted (if b then hello r else request_by r.page.plan module_language r) ≡ true → is_aborted (request_by r.page.plan module_language r) ≡ true
    by true e = absurd (false≢true e)
    by false e = e

-- the plan is given up for this cause, where there is one
pub given_up_becomes : {F : Type 0} (r : Runtime) (h : HotRuntime F) (u : UnderWay) (left : Option UnderWay) (found : Option Cause) (tells : List OutLine) → Keeps r h → IsSound h → h.plan ≡ Some u → left ≡ None → is_aborted (request module_language r) ≡ true
    → ((p : Plan) → IsUnderWay r p u → is_aborted (carry_on r.cause module_language p r) ≡ true → option_map cause_of found ≡ cause_by r.cause module_language p r)
    → tells ≡ cause_lines h.page.client (option_map cause_of found) → Becomes (abort_in r.page.plan module_language r) (with_under_way h left) tells
given_up_becomes {F} r h u left found tells k s is gone t finds told =
    subst (λ v. Becomes (abort_in r.page.plan module_language r) (with_under_way h v) tells) (sym gone) (by r.page.plan (subst (IsPlan r r.page.plan) is k.plan) (by_plan r t))
  where
    by : (o : Option Plan) → IsPlan r o (Some u) → is_aborted (request_by o module_language r) ≡ true → Becomes (abort_in o module_language r) (with_under_way h None) tells
    by None i e = absurd i
    by (Some p) i e =
        let cause : Option model.Cause = cause_by r.cause module_language p r in
        becomes_of (abort_in (Some p) module_language r) (run_with r None [] [] None) (with_under_way h None) tells
        (ap (λ x. run_with x None [] [] None) (wrote cause r)) (plan_sound h None tt s) (plan_kept r h None [] [] None None k tt)
        (told ∙ ap (λ c. cause_lines c (option_map cause_of found)) (sym k.page.client) ∙ ap (cause_lines r.client) (finds p i e)
        ∙ sym (wrote_lines cause r) ∙ ap (lines_of_all r.client) (sym (append-nil (write_cause cause r).1)))

-- with no plan under way there is none to give up
pub none_given_up : {F : Type 0} (r : Runtime) (h : HotRuntime F) (u : Option UnderWay) (tells : List OutLine) → Keeps r h → IsSound h → h.plan ≡ None → u ≡ None → tells ≡ [] → Becomes (abort_in r.page.plan module_language r) (with_under_way h u) tells
none_given_up {F} r h u tells k s is gone silent = subst (λ left. Becomes (abort_in r.page.plan module_language r) (with_under_way h left) tells) (sym gone) (by r.page.plan refl (subst (IsPlan r r.page.plan) is k.plan))
  where
    by : (o : Option Plan) → r.page.plan ≡ o → IsPlan r o None → Becomes (abort_in o module_language r) (with_under_way h None) tells
    by None e i = record { sound = plan_sound h None tt s; keeps = subst (λ q. Keeps (run_with r q r.texts r.pairs r.cause) (with_under_way h None)) e' (plan_kept r h None r.texts r.pairs r.cause None k tt); lines = silent }
      where
        e' : None ≡ r.page.plan
        e' = sym e
    by (Some p) e i = absurd i

-- whether there is a plan under way or not
pub cause_given : {F : Type 0} (cause : Cause) (r : Runtime) (h : HotRuntime F) (left : Option UnderWay) (tells : List OutLine) → Keeps r h → IsSound h → (h.plan ≡ None → left ≡ None) → ((u : UnderWay) → h.plan ≡ Some u → left ≡ Some (record u { cause = Some cause }))
    → tells ≡ [] → Becomes (with_cause (cause_of cause) r) (with_under_way h left) tells
cause_given {F} cause r h left tells k s none some silent = by h.plan refl
  where
    by : (o : Option UnderWay) → h.plan ≡ o → Becomes (with_cause (cause_of cause) r) (with_under_way h left) tells
    by None e = uncaused_becomes (cause_of cause) r h left tells k s e (none e) silent
    by (Some u) e = subst (λ o. Becomes (with_cause (cause_of cause) r) (with_under_way h o) tells) (sym (some u e))
        (caused_becomes (cause_of cause) r h u (record u { cause = Some cause }) tells k s e (λ p i. caused r p cause u i) (λ planned. record { staged = planned.staged; trees = planned.trees; loads = planned.loads }) silent)

-- and it is given up
pub all_given_up : {F : Type 0} (r : Runtime) (h : HotRuntime F) (left : Option UnderWay) (found : Option Cause) (tells : List OutLine) → Keeps r h → IsSound h → left ≡ None → is_aborted (request module_language r) ≡ true
    → (h.plan ≡ None → found ≡ None) → ((u : UnderWay) → h.plan ≡ Some u → (p : Plan) → IsUnderWay r p u → is_aborted (carry_on r.cause module_language p r) ≡ true → option_map cause_of found ≡ cause_by r.cause module_language p r)
    → tells ≡ cause_lines h.page.client (option_map cause_of found) → Becomes (abort_in r.page.plan module_language r) (with_under_way h left) tells
all_given_up {F} r h left found tells k s gone t none some told = by h.plan refl
  where
    by : (o : Option UnderWay) → h.plan ≡ o → Becomes (abort_in r.page.plan module_language r) (with_under_way h left) tells
    by None e = none_given_up r h left tells k s e gone (told ∙ ap (λ o. cause_lines h.page.client (option_map cause_of o)) (none e))
    by (Some u) e = given_up_becomes r h u left found tells k s e gone t (some u e) told
