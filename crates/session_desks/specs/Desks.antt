-- What each call of a desk leaves.
use Rattle.std.specs.Prelude.{◌≡◌, ℕ, ◌==◌, ◌||◌, Bool, true, false, Option, Some, None, Result, Ok, Err}
use Prim.{⊥}
use Rattle.update_msgs.specs.declared.desk.HubStop.{HubStop}
use Rattle.update_msgs.specs.declared.message.ClientMsg.{ClientMsg}
use Rattle.update_msgs.specs.declared.message.ClientMsg.TheVariants as told
use Rattle.update_msgs.specs.declared.message.ServerMsg.{ServerMsg}
use Rattle.core_model.specs.declared.refusal.Refusal.{Refusal}
use Rattle.core_model.specs.declared.refusal.Refusal.TheVariants.{OutOfTurn, Ignored}
use Rattle.core_model.specs.Core.{disconnect}
use Rattle.core_model.specs.Exchange.{event_of, refusal_message}
use Rattle.hmr_types.specs.Table.{is_version}
use Rattle.events_and_replies.specs.declared.event.Reply.{Reply}
use Rattle.client_exchange.specs.Messages.{is_bye}
use Rattle.client_exchange.specs.Replies.{client_after, message_in}
use Rattle.hmr_hub.specs.Passes.{number_of}
use Rattle.session_desks.specs.declared.desk.HubDesk.{HubDesk}
use Rattle.session_desks.specs.Telling.{Told, lacks_memory}

-- the same hub, and a pass of the same number
pub record SameDesk {R : Type 0} (x y : HubDesk R) : Type 0 where
  pub hub : y.hub ≡ x.hub
  pub number : number_of y.pass ≡ number_of x.pass

-- a second hello is out of turn
abbrev pub hello_refusal : Bool → Option Refusal
hello_refusal true = None
hello_refusal false = Some OutOfTurn

-- an invalidation at a version that no edit can have is ignored, as at any other that isn't the page's
abbrev pub version_refusal : Bool → Option Refusal
version_refusal true = None
version_refusal false = Some Ignored

-- the refusal of a message that is no event, of a desk with this client
abbrev pub refusal_of : ℕ → ClientMsg → Option Refusal
refusal_of client (told.Hello format roots) = hello_refusal (client == 0)
refusal_of client told.Ask = None
refusal_of client (told.Fetch n) = None
refusal_of client (told.Applied table) = None
refusal_of client (told.Aborted cause n from x) = None
refusal_of client (told.Invalidate n v message) = version_refusal (is_version v)
refusal_of client told.Bye = None

-- the answer is the reply as a message
abbrev pub IsAnswer : Result Reply HubStop → Result ServerMsg HubStop → Type 0
IsAnswer (Ok reply) (Ok answer) = message_in reply ≡ Some answer
IsAnswer (Ok reply) (Err stop) = ⊥
IsAnswer (Err stop) result = result ≡ Err stop

-- the client of a desk after an answer; without one it is the same
abbrev pub client_with : ℕ → ClientMsg → Result ServerMsg HubStop → ℕ
client_with client m (Ok answer) = client_after client (is_bye m) answer
client_with client m (Err stop) = client

-- the message was one event of the hub
pub record Heard {R : Type 0} (m : ClientMsg) (x y : HubDesk R)
    (result : Result ServerMsg HubStop) : Type 0 where
  pub reply : Result Reply HubStop
  pub told : Told (event_of x.client m) reply x.pass y.pass x.full y.full
  pub answer : IsAnswer reply result
  pub client : y.client ≡ client_with x.client m result
  pub hub : y.hub ≡ x.hub
  pub no_memory : y.no_memory ≡ x.no_memory

-- the message was refused and nothing changed, or else it was one event
abbrev pub DealtBy : {R : Type 0} → Option Refusal → ClientMsg → HubDesk R → HubDesk R
    → Result ServerMsg HubStop → Type 0
DealtBy (Some refusal) m x y result = (result ≡ Ok (refusal_message refusal)) × (y ≡ x)
DealtBy None m x y result = Heard m x y result

-- what an answer to a message leaves of a desk
abbrev pub Dealt : {R : Type 0} → ClientMsg → HubDesk R → HubDesk R → Result ServerMsg HubStop → Type 0
Dealt m x y result = DealtBy (refusal_of x.client m) m x y result

-- the hub was told that the client is gone
pub record Gone {R : Type 0} (x y : HubDesk R) : Type 0 where
  pub reply : Result Reply HubStop
  pub told : Told (disconnect x.client) reply x.pass y.pass x.full y.full
  pub no_memory : y.no_memory ≡ (x.no_memory || lacks_memory reply)
  pub client : y.client ≡ x.client
  pub hub : y.hub ≡ x.hub

-- a desk without a client is left as it was
abbrev pub LeftBy : {R : Type 0} → Bool → HubDesk R → HubDesk R → Type 0
LeftBy true x y = y ≡ x
LeftBy false x y = Gone x y

-- what a desk is once its session has ended
abbrev pub Left : {R : Type 0} → HubDesk R → HubDesk R → Type 0
Left x y = LeftBy (x.client == 0) x y
