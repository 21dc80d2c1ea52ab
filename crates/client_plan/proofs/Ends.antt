-- What carries a plan on, against what its client tells.
use Rattle.std.proofs.Common.{◌≡◌, Bool, true, false, refl, ap, sym, ◌∙◌, length}
use Rattle.std.specs.Prelude.{Option, Some, None}
use Rattle.std.specs.Option.{option_map}
use Rattle.std.proofs.Math.Path.{subst}
use Rattle.std.proofs.lemmas.Bool.{false≢true}
use Rattle.core_model.specs.Names.{Name}
use Rattle.core_model.specs.Page.{Plan}
use Rattle.client_model.specs.Linking.{link_cause, new_names, next_needed}
use Rattle.client_model.specs.Requesting.{abort_message, carry_on, cause_by, fetch_or_finish}
use Rattle.client_model.specs.Runtime as model
use Rattle.client_model.specs.Runtime.{Runtime}
use Rattle.module_language.specs.ModuleLanguage.{module_language}
use Rattle.client_plan.specs.UnderWay.{IsNext, IsReady, IsUnderWay, cause_of, is_aborted, is_applied_told, untold}
use Rattle.client_plan.specs.declared.cause.Cause.{Cause}
use Rattle.client_plan.specs.declared.under_way.Next.{Next}
use Rattle.client_plan.specs.declared.under_way.Next.TheVariants.{Fetch, Finish}
use Rattle.client_plan.specs.declared.under_way.Ready.{Ready}
use Rattle.client_plan.specs.declared.under_way.UnderWay.{UnderWay}

given_up : (cause : model.Cause) → is_applied_told (abort_message cause) ≡ false
given_up (model.missing n) = refl
given_up (model.broken n) = refl
given_up (model.unlinked n m x) = refl

fetching : (o : Option model.Cause) (p : Plan) (r : Runtime) (n : Name) → next_needed p r ≡ Some n → is_applied_told (carry_on o module_language p r) ≡ false
fetching (Some cause) p r n e = given_up cause
fetching None p r n e = ap (λ need. is_applied_told (fetch_or_finish need (link_cause module_language p r) p r)) e

-- a plan for which something is left to be fetched isn't applied
pub counted_none : {X : Type 0} (u : UnderWay) (n : Name) → u.next ≡ Fetch n → (r : Runtime) (p : Plan) → IsUnderWay r p u → is_applied_told (carry_on r.cause module_language p r) ≡ true → X
counted_none u n is r p i t = absurd (false≢true (sym (fetching r.cause p r n (subst (IsNext r p) is i.next)) ∙ t))

pub counted_all : (u : UnderWay) (ready : Ready) → u.next ≡ Finish ready → (r : Runtime) (p : Plan) → IsUnderWay r p u → length ready.names.items ≡ length (new_names p r)
counted_all u ready is r p i = let all : IsReady r p ready = subst (IsNext r p) is i.next in ap length all.names

-- the cause at the end
pub cause_at_end : (next : Next) (n : Name) → next ≡ Fetch n → (r : Runtime) (p : Plan) → IsNext r p next → is_aborted (fetch_or_finish (next_needed p r) (link_cause module_language p r) p r) ≡ true → None ≡ link_cause module_language p r
cause_at_end next n is r p i t =
    absurd (false≢true (sym (ap (λ need. is_aborted (fetch_or_finish need (link_cause module_language p r) p r)) (subst (IsNext r p) is i)) ∙ t))

pub cause_ready : (next : Next) (ready : Ready) → next ≡ Finish ready → (r : Runtime) (p : Plan) → IsNext r p next → option_map cause_of ready.link ≡ link_cause module_language p r
cause_ready next ready is r p i = let all : IsReady r p ready = subst (IsNext r p) is i in sym all.link

pub cause_found : (u : UnderWay) (cause : Cause) → u.cause ≡ Some cause → (r : Runtime) (p : Plan) → IsUnderWay r p u → Some (cause_of cause) ≡ cause_by r.cause module_language p r
cause_found u cause is r p i = ap (λ o. cause_by o module_language p r) (sym (i.cause ∙ ap (option_map cause_of) is))

pub cause_left : (u : UnderWay) (found : Option Cause) → u.cause ≡ None → (r : Runtime) (p : Plan) → IsUnderWay r p u
    → (IsNext r p u.next → is_aborted (fetch_or_finish (next_needed p r) (link_cause module_language p r) p r) ≡ true → option_map cause_of found ≡ link_cause module_language p r)
    → is_aborted (carry_on r.cause module_language p r) ≡ true → option_map cause_of found ≡ cause_by r.cause module_language p r
cause_left u found is r p i ends t =
    let none : r.cause ≡ None = i.cause ∙ ap (option_map cause_of) is in
    ends i.next (sym (ap (λ o. is_aborted (carry_on o module_language p r)) none) ∙ t) ∙ ap (λ o. cause_by o module_language p r) (sym none)

-- what ends a plan is one thing
abbrev finish_of : Next → Ready → Ready
finish_of (Fetch n) other = other
finish_of (Finish ready) other = ready

pub same_finish : (a b : Ready) → Finish a ≡ Finish b → a ≡ b
same_finish a b e = ap (λ next. finish_of next a) e

abbrev is_fetch : Next → Bool
is_fetch (Fetch n) = true
is_fetch (Finish ready) = false

pub fetch_not_finish : (n : Name) (ready : Ready) → Fetch n ≡ Finish ready → {X : Type 0} → X
fetch_not_finish n ready e = absurd (false≢true (sym (ap is_fetch e)))

-- a message that a plan was given up tells no modules
pub untold_abort : (cause : model.Cause) → abort_message cause ≡ untold (abort_message cause)
untold_abort (model.missing n) = refl
untold_abort (model.broken n) = refl
untold_abort (model.unlinked n m x) = refl
