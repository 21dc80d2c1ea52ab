use Rattle.std.proofs.Common.{◌≡◌}
use Rattle.std.specs.Prelude.{IfOk, map}
use Rattle.std.proofs.Math.Path.{subst}
use Rattle.client_model.specs.Requesting.{ask_or_invalidate}
use Rattle.page_state.specs.Standing.{invalidation_as}
use Rattle.client_plan.specs.UnderWay.{untold}
use Rattle.runtime_state.proofs.Requests.{asked_hello, asked_none, plan_request}
use Rattle.runtime_state.proofs.runtime.HotRuntime.asked.Goals as goal

pub returns-then-self-eq0 : goal.returns-then-self-eq0
returns-then-self-eq0 g c = λ r k. asked_hello r c.args.self.now c.hello.result k c.if-self-eq0.true c.hello.ensures.hello

pub returns-in-Some : goal.returns-in-Some
returns-in-Some g c = λ r k. plan_request untold r c.args.self.now c.in-Some.plan c.asked.result k c.in-Some.is c.if-self-eq0.false (λ p i. c.asked.ensures r p i)

pub returns-in-None : goal.returns-in-None
returns-in-None g c = λ r k. asked_none r c.args.self.now c.ask_or_invalidate.result k c.in-None.is c.if-self-eq0.false
    (subst (λ xs. IfOk c.ask_or_invalidate.result (λ asked. asked ≡ ask_or_invalidate (map invalidation_as xs))) c.deref.ensures.value c.ask_or_invalidate.ensures.request)
