-- How many instances a plan makes, where it is told to be applied.
use Rattle.std.proofs.Common.{◌≡◌, ℕ, Bool, true, false, length, refl}
use Rattle.std.specs.Prelude.{◌==◌, if◌then◌else◌, Option, Some, None}
use Rattle.std.proofs.Math.Path.{subst}
use Rattle.std.proofs.lemmas.Bool.{false≢true}
use Rattle.update_msgs.specs.declared.message.ClientMsg.{ClientMsg}
use Rattle.update_msgs.specs.declared.message.ClientMsg.TheVariants as asks
use Rattle.update_msgs.specs.declared.message.ServerMsg.{ServerMsg}
use Rattle.update_msgs.specs.declared.message.ServerMsg.TheVariants as msg
use Rattle.core_model.specs.Page.{Plan}
use Rattle.client_model.specs.Linking.{new_names}
use Rattle.client_model.specs.Requesting.{carry_on, hello, request, request_by}
use Rattle.client_model.specs.Runtime.{Runtime}
use Rattle.client_model.specs.Taking.{is_applied, made_by_plan}
use Rattle.module_language.specs.ModuleLanguage.{module_language}
use Rattle.client_plan.specs.UnderWay.{IsUnderWay, is_applied_told}
use Rattle.client_plan.specs.declared.under_way.UnderWay.{UnderWay}
use Rattle.runtime_state.specs.Standing.{IsPlan, Keeps}
use Rattle.runtime_state.specs.declared.runtime.HotRuntime.{HotRuntime}

-- a client that tells so has a number
by_plan : (r : Runtime) → is_applied_told (request module_language r) ≡ true → is_applied_told (request_by r.page.plan module_language r) ≡ true
by_plan r t = by (r.client == 0) t
  where
    by : (b : Bool) → is_applied_told (if b then hello r else request_by r.page.plan module_language r) ≡ true → is_applied_told (request_by r.page.plan module_language r) ≡ true
    by true e = absurd (false≢true e)
    by false e = e

-- a plan under way
pub made_some : {F : Type 0} (r : Runtime) (h : HotRuntime F) (u : UnderWay) (made : ℕ) → Keeps r h → h.plan ≡ Some u → is_applied_told (request module_language r) ≡ true
    → ((p : Plan) → IsUnderWay r p u → is_applied_told (carry_on r.cause module_language p r) ≡ true → made ≡ length (new_names p r)) → made ≡ made_by_plan r.page.plan r
made_some r h u made k is t counts = by r.page.plan (subst (IsPlan r r.page.plan) is k.plan) (by_plan r t)
  where
    by : (o : Option Plan) → IsPlan r o (Some u) → is_applied_told (request_by o module_language r) ≡ true → made ≡ made_by_plan o r
    by None i e = absurd i
    by (Some p) i e = counts p i e

-- none
pub made_none : {F : Type 0} (r : Runtime) (h : HotRuntime F) → Keeps r h → h.plan ≡ None → 0 ≡ made_by_plan r.page.plan r
made_none r h k is = by r.page.plan (subst (IsPlan r r.page.plan) is k.plan)
  where
    by : (o : Option Plan) → IsPlan r o None → 0 ≡ made_by_plan o r
    by None i = refl
    by (Some p) i = absurd i

-- what is taken note of was told
pub applied_told : (asked : ClientMsg) (m : ServerMsg) → is_applied asked m ≡ true → is_applied_told asked ≡ true
applied_told (asks.Hello format roots) m e = absurd (false≢true e)
applied_told asks.Ask m e = absurd (false≢true e)
applied_told (asks.Fetch n) m e = absurd (false≢true e)
applied_told (asks.Applied table) m e = refl
applied_told (asks.Aborted cause n from x) m e = absurd (false≢true e)
applied_told (asks.Invalidate n v message) m e = absurd (false≢true e)
applied_told asks.Bye m e = absurd (false≢true e)

-- what was told is taken note of at the end of a plan alone
pub told_applied : (asked : ClientMsg) → is_applied_told asked ≡ true → is_applied asked msg.Done ≡ true
told_applied (asks.Hello format roots) e = e
told_applied asks.Ask e = e
told_applied (asks.Fetch n) e = e
told_applied (asks.Applied table) e = e
told_applied (asks.Aborted cause n from x) e = e
told_applied (asks.Invalidate n v message) e = e
told_applied asks.Bye e = e
