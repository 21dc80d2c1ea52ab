-- What is told of a plan that is applied is of no account for what answers it.
use Rattle.std.proofs.Common.{◌≡◌, ℕ, Bool, true, false, List, [], refl, ap}
use Rattle.std.specs.Prelude.{◌+◌, ◌&&◌, length, nat_lt}
use Rattle.std.proofs.lemmas.Bool.{false≢true}
use Rattle.hmr_types.specs.declared.limits.TheConstants.{INSTANCES}
use Rattle.update_msgs.specs.declared.message.ClientMsg.{ClientMsg}
use Rattle.update_msgs.specs.declared.message.ClientMsg.TheVariants as asks
use Rattle.update_msgs.specs.declared.message.ServerMsg.{ServerMsg}
use Rattle.update_msgs.specs.declared.message.ServerMsg.TheVariants as msg
use Rattle.client_model.specs.Answering.{answered, done, took_refusal}
use Rattle.client_model.specs.Expecting.{is_answer, request_place}
use Rattle.client_model.specs.Runtime.{Runtime}
use Rattle.client_model.specs.Taking.{is_applied, is_too_many, made_by_plan}
use Rattle.module_language.specs.ModuleLanguage.{module_language}
use Rattle.client_plan.specs.UnderWay.{is_aborted, is_applied_told, untold}

pub untold_answer : (asked : ClientMsg) (loaded : Bool) (m : ServerMsg) → is_answer loaded asked m ≡ is_answer loaded (untold asked) m
untold_answer (asks.Hello format roots) loaded m = refl
untold_answer asks.Ask loaded m = refl
untold_answer (asks.Fetch n) loaded m = refl
untold_answer (asks.Applied table) loaded m = refl
untold_answer (asks.Aborted cause n from x) loaded m = refl
untold_answer (asks.Invalidate n v message) loaded m = refl
untold_answer asks.Bye loaded m = refl

pub untold_place : (asked : ClientMsg) → request_place asked ≡ request_place (untold asked)
untold_place (asks.Hello format roots) = refl
untold_place asks.Ask = refl
untold_place (asks.Fetch n) = refl
untold_place (asks.Applied table) = refl
untold_place (asks.Aborted cause n from x) = refl
untold_place (asks.Invalidate n v message) = refl
untold_place asks.Bye = refl

pub untold_told : (asked : ClientMsg) → is_applied_told asked ≡ is_applied_told (untold asked)
untold_told (asks.Hello format roots) = refl
untold_told asks.Ask = refl
untold_told (asks.Fetch n) = refl
untold_told (asks.Applied table) = refl
untold_told (asks.Aborted cause n from x) = refl
untold_told (asks.Invalidate n v message) = refl
untold_told asks.Bye = refl

pub untold_aborted : (asked : ClientMsg) → is_aborted asked ≡ is_aborted (untold asked)
untold_aborted (asks.Hello format roots) = refl
untold_aborted asks.Ask = refl
untold_aborted (asks.Fetch n) = refl
untold_aborted (asks.Applied table) = refl
untold_aborted (asks.Aborted cause n from x) = refl
untold_aborted (asks.Invalidate n v message) = refl
untold_aborted asks.Bye = refl

applied_all : (a b : List (List ℕ × ℕ)) (m : ServerMsg) → is_applied (asks.Applied a) m ≡ is_applied (asks.Applied b) m
applied_all a b (msg.Connected client roots) = refl
applied_all a b (msg.Update replaced updates batch triggered) = refl
applied_all a b (msg.Prune paths) = refl
applied_all a b (msg.FullReload cause path batch triggered) = refl
applied_all a b (msg.Error n row column word) = refl
applied_all a b (msg.Broken n row column word) = refl
applied_all a b msg.Idle = refl
applied_all a b msg.Done = refl
applied_all a b (msg.Text n v t) = refl
applied_all a b (msg.Missing n) = refl
applied_all a b (msg.NotYet n) = refl
applied_all a b (msg.Refused code n told kept) = refl

untold_applied : (asked : ClientMsg) (m : ServerMsg) → is_applied asked m ≡ is_applied (untold asked) m
untold_applied (asks.Hello format roots) m = refl
untold_applied asks.Ask m = refl
untold_applied (asks.Fetch n) m = refl
untold_applied (asks.Applied table) m = applied_all table [] m
untold_applied (asks.Aborted cause n from x) m = refl
untold_applied (asks.Invalidate n v message) m = refl
untold_applied asks.Bye m = refl

pub untold_many : (asked : ClientMsg) (m : ServerMsg) (r : Runtime) → is_too_many asked m r ≡ is_too_many (untold asked) m r
untold_many asked m r = ap (λ b. b && nat_lt INSTANCES (length r.instances + made_by_plan r.page.plan r)) (untold_applied asked m)

untold_done : (asked : ClientMsg) (r : Runtime) → done asked module_language r ≡ done (untold asked) module_language r
untold_done (asks.Hello format roots) r = refl
untold_done asks.Ask r = refl
untold_done (asks.Fetch n) r = refl
untold_done (asks.Applied table) r = refl
untold_done (asks.Aborted cause n from x) r = refl
untold_done (asks.Invalidate n v message) r = refl
untold_done asks.Bye r = refl

untold_refused : (asked : ClientMsg) (r : Runtime) → took_refusal asked r ≡ took_refusal (untold asked) r
untold_refused (asks.Hello format roots) r = refl
untold_refused asks.Ask r = refl
untold_refused (asks.Fetch n) r = refl
untold_refused (asks.Applied table) r = refl
untold_refused (asks.Aborted cause n from x) r = refl
untold_refused (asks.Invalidate n v message) r = refl
untold_refused asks.Bye r = refl

pub untold_answered : (asked : ClientMsg) (m : ServerMsg) (r : Runtime) → answered module_language asked m r ≡ answered module_language (untold asked) m r
untold_answered asked (msg.Connected client roots) r = refl
untold_answered asked (msg.Update replaced updates batch triggered) r = refl
untold_answered asked (msg.Prune paths) r = refl
untold_answered asked (msg.FullReload cause path batch triggered) r = refl
untold_answered asked (msg.Error n row column word) r = refl
untold_answered asked (msg.Broken n row column word) r = refl
untold_answered asked msg.Idle r = refl
untold_answered asked msg.Done r = untold_done asked r
untold_answered asked (msg.Text n v t) r = refl
untold_answered asked (msg.Missing n) r = refl
untold_answered asked (msg.NotYet n) r = refl
untold_answered asked (msg.Refused code n told kept) r = untold_refused asked r

-- an ask is an ask
is_ask : ClientMsg → Bool
is_ask (asks.Hello format roots) = false
is_ask asks.Ask = true
is_ask (asks.Fetch n) = false
is_ask (asks.Applied table) = false
is_ask (asks.Aborted cause n from x) = false
is_ask (asks.Invalidate n v message) = false
is_ask asks.Bye = false

pub untold_ask : (asked : ClientMsg) → untold asked ≡ asks.Ask → asked ≡ asks.Ask
unfolding is_ask
untold_ask (asks.Hello format roots) e = absurd (false≢true (ap is_ask e))
untold_ask asks.Ask e = refl
untold_ask (asks.Fetch n) e = absurd (false≢true (ap is_ask e))
untold_ask (asks.Applied table) e = absurd (false≢true (ap is_ask e))
untold_ask (asks.Aborted cause n from x) e = absurd (false≢true (ap is_ask e))
untold_ask (asks.Invalidate n v message) e = absurd (false≢true (ap is_ask e))
untold_ask asks.Bye e = absurd (false≢true (ap is_ask e))
