-- The request of a runtime that has a plan under way.
use Rattle.std.proofs.Common.{◌≡◌, ℕ, Bool, true, false, List, [], ◌∷◌, map, refl, ap, sym, ◌∙◌, arith}
use Rattle.std.specs.Prelude.{◌==◌, Result, Option, Some, None, IfOk, if◌then◌else◌}
use Prim.{⊥}
use Rattle.std.proofs.Math.Path.{subst}
use Rattle.std.proofs.lemmas.Result.{IfOk-weaker}
use Rattle.std.specs.declared.alloc.AllocError.{AllocError}
use Rattle.update_msgs.specs.declared.message.ClientMsg.{ClientMsg}
use Rattle.update_msgs.specs.declared.message.ClientMsg.TheVariants as told
use Rattle.core_model.specs.Page.{Plan}
use Rattle.client_model.specs.Requesting.{ask_or_invalidate, request, request_by, carry_on, hello}
use Rattle.client_model.specs.Runtime.{Invalidation, Runtime}
use Rattle.module_language.specs.ModuleLanguage.{module_language}
use Rattle.page_state.specs.Standing.{invalidation_as}
use Rattle.client_plan.specs.UnderWay.{IsUnderWay, untold}
use Rattle.client_plan.specs.declared.under_way.UnderWay.{UnderWay}
use Rattle.runtime_state.specs.Standing.{Keeps, IsPlan}
use Rattle.runtime_state.specs.declared.runtime.HotRuntime.{HotRuntime}

else_is : {X : Type 0} (b : Bool) (x y : X) → (b ≡ true → ⊥) → y ≡ (if b then x else y)
else_is true x y f = absurd (f refl)
else_is false x y f = refl

is_zero : (k : ℕ) → (k == 0) ≡ true → k ≡ 0
is_zero k t = grind (arith, t)

module _ (tells : ClientMsg → ClientMsg) where
  plan_step : (r : Runtime) (o : Option Plan) (u : UnderWay) (asked : Result ClientMsg AllocError) → IsPlan r o (Some u) → ((p : Plan) → IsUnderWay r p u → IfOk asked (λ a. a ≡ tells (carry_on r.cause module_language p r))) → IfOk asked (λ a. a ≡ tells (request_by o module_language r))
  plan_step r None u asked i f = absurd i
  plan_step r (Some p) u asked i f = f p i

  -- what carries the plan on is the request that stands
  pub plan_request : {F : Type 0} (r : Runtime) (h : HotRuntime F) (u : UnderWay) (asked : Result ClientMsg AllocError) → Keeps r h → h.plan ≡ Some u → (h.page.client ≡ 0 → ⊥) → ((p : Plan) → IsUnderWay r p u → IfOk asked (λ a. a ≡ tells (carry_on r.cause module_language p r))) → IfOk asked (λ a. a ≡ tells (request module_language r))
  plan_request r h u asked k is client f =
      subst (λ (m : ClientMsg). IfOk asked (λ a. a ≡ tells m)) (else_is (r.client == 0) (hello r) (request_by r.page.plan module_language r) (λ t. client (sym k.page.client ∙ is_zero r.client t)))
      (plan_step r r.page.plan u asked (subst (IsPlan r r.page.plan) is k.plan) f)

zero_is : (k : ℕ) → k ≡ 0 → (k == 0) ≡ true
zero_is k e = grind (arith, e)

-- with no number the client greets
pub asked_hello : {F : Type 0} (r : Runtime) (h : HotRuntime F) (asked : Result ClientMsg AllocError) → Keeps r h → h.page.client ≡ 0 → IfOk asked (λ a. a ≡ told.Hello h.format h.named) → IfOk asked (λ a. a ≡ untold (request module_language r))
asked_hello r h asked k none f = IfOk-weaker asked (λ a. a ≡ told.Hello h.format h.named) (λ a. a ≡ untold (request module_language r))
    (λ a is. is ∙ ap (λ n. told.Hello n h.named) (sym k.format) ∙ ap (λ ns. told.Hello r.format ns) (sym k.named)
    ∙ ap (λ b. untold (if b then hello r else request_by r.page.plan module_language r)) (sym (zero_is r.client (k.page.client ∙ none)))) f

untold_unsent : (unsent : List Invalidation) → ask_or_invalidate unsent ≡ untold (ask_or_invalidate unsent)
untold_unsent [] = refl
untold_unsent (i ∷ more) = refl

-- with no plan it asks, or tells an invalidation
pub asked_none : {F : Type 0} (r : Runtime) (h : HotRuntime F) (asked : Result ClientMsg AllocError) → Keeps r h → h.plan ≡ None → (h.page.client ≡ 0 → ⊥) → IfOk asked (λ a. a ≡ ask_or_invalidate (map invalidation_as h.page.unsent.items)) → IfOk asked (λ a. a ≡ untold (request module_language r))
asked_none r h asked k is client f = IfOk-weaker asked (λ a. a ≡ ask_or_invalidate (map invalidation_as h.page.unsent.items)) (λ a. a ≡ untold (request module_language r))
    (λ a told_so. told_so ∙ ap ask_or_invalidate (sym k.page.unsent) ∙ untold_unsent r.unsent ∙ by r.page.plan (subst (IsPlan r r.page.plan) is k.plan)
    ∙ ap untold (else_is (r.client == 0) (hello r) (request_by r.page.plan module_language r) (λ t. client (sym k.page.client ∙ is_zero r.client t)))) f
  where
    by : (o : Option Plan) → IsPlan r o None → untold (ask_or_invalidate r.unsent) ≡ untold (request_by o module_language r)
    by None i = refl
    by (Some p) i = absurd i
