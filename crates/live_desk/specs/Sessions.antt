-- Sessions: the messages that a desk was handed, in order, and the calls of the hub that came of them.
use Rattle.std.specs.Prelude.{◌≡◌, ◌≢◌, ◌⊎◌, ◌==◌, ℕ, Bool, true, false, ⊤, List, [], ◌∷◌, ◌++◌}
use Rattle.std.specs.Prelude.{flat_map, Option, Some, None, Result, Ok, Err}
use Rattle.update_msgs.specs.declared.desk.HubStop.{HubStop}
use Rattle.update_msgs.specs.declared.message.ClientMsg.{ClientMsg}
use Rattle.update_msgs.specs.declared.message.ClientMsg.TheVariants as told
use Rattle.update_msgs.specs.declared.message.ServerMsg.{ServerMsg}
use Rattle.update_msgs.specs.declared.message.ServerMsg.TheVariants.{Idle}
use Rattle.core_model.specs.declared.refusal.Refusal.{Refusal}
use Rattle.core_model.specs.Core.{disconnect}
use Rattle.core_model.specs.Exchange.{event_of, refusal_message}
use Rattle.events_and_replies.specs.declared.event.Reply.{Reply}
use Rattle.session_desks.specs.declared.desk.HubDesk.{HubDesk}
use Rattle.session_desks.specs.Desks.{IsAnswer, client_with, refusal_of}
use Rattle.live_desk.specs.Calls.{Call, HasCalled}

-- a message that a desk was handed, the answer, and the calls that came of it
pub record Exchange : Type 0 where
  pub message : ClientMsg
  pub result : Result ServerMsg HubStop
  pub made : List Call

-- one call: the event that the message of this client is; the answer is the reply as a message
abbrev pub IsHeard : ℕ → ClientMsg → Result ServerMsg HubStop → List Call → Type 0
IsHeard client m result made =
    (reply : Result Reply HubStop) × (made ≡ (event_of client m, reply) ∷ []) × IsAnswer reply result

-- a message that the desk refuses itself is no call, and every other is one
abbrev pub IsDealtBy : Option Refusal → ℕ → ClientMsg → Result ServerMsg HubStop → List Call → Type 0
IsDealtBy (Some refusal) client m result made = (made ≡ []) × (result ≡ Ok (refusal_message refusal))
IsDealtBy None client m result made = IsHeard client m result made

-- a second hello is refused so, and an invalidation at a version that no edit can have
abbrev pub IsDealt : ℕ → ClientMsg → Result ServerMsg HubStop → List Call → Type 0
IsDealt client m result made = IsDealtBy (refusal_of client m) client m result made

-- an ask that was answered with nothing to do, and then dealt again
pub record IsAskedAgain (client : ℕ) (result : Result ServerMsg HubStop) (made : List Call) : Type 0 where
  pub first : List Call
  pub again : List Call
  pub made_are : made ≡ first ++ again
  pub idle : IsDealt client told.Ask (Ok Idle) first
  pub dealt : IsDealt client told.Ask result again

-- an ask is dealt once where there is something to do or no answer, and else twice
abbrev pub IsAsked : ℕ → Result ServerMsg HubStop → List Call → Type 0
IsAsked client result made =
    (IsDealt client told.Ask result made × (result ≢ Ok Idle)) ⊎ IsAskedAgain client result made

-- these calls came of the message, and this answer: each message but an ask is dealt just once
abbrev pub IsExchanged : ℕ → ClientMsg → Result ServerMsg HubStop → List Call → Type 0
IsExchanged client (told.Hello format roots) result made =
    IsDealt client (told.Hello format roots) result made
IsExchanged client told.Ask result made = IsAsked client result made
IsExchanged client (told.Fetch n) result made = IsDealt client (told.Fetch n) result made
IsExchanged client (told.Applied table) result made = IsDealt client (told.Applied table) result made
IsExchanged client (told.Aborted cause n from x) result made =
    IsDealt client (told.Aborted cause n from x) result made
IsExchanged client (told.Invalidate n v message) result made =
    IsDealt client (told.Invalidate n v message) result made
IsExchanged client told.Bye result made = IsDealt client told.Bye result made

-- the client of a desk after these exchanges, 0 for none
abbrev pub client_then : ℕ → List Exchange → ℕ
client_then client [] = client
client_then client (x ∷ exchanges) = client_then (client_with client x.message x.result) exchanges

-- each is one of a desk with the client that those before it left
abbrev pub AreExchanged : ℕ → List Exchange → Type 0
AreExchanged client [] = ⊤
AreExchanged client (x ∷ exchanges) =
    IsExchanged client x.message x.result x.made
    × AreExchanged (client_with client x.message x.result) exchanges

-- the message with its answer, where there was one
abbrev pub deal_of : ClientMsg → Result ServerMsg HubStop → List (ClientMsg × ServerMsg)
deal_of m (Ok answer) = (m, answer) ∷ []
deal_of m (Err stop) = []

-- the messages of these exchanges that were answered, with the answers
abbrev pub deals_in : List Exchange → List (ClientMsg × ServerMsg)
deals_in exchanges = flat_map (λ (x : Exchange). deal_of x.message x.result) exchanges

-- all calls that came of these exchanges
abbrev pub calls_in : List Exchange → List Call
calls_in exchanges = flat_map (λ (x : Exchange). x.made) exchanges

-- the hub was told that the client is gone, once, where there was one
abbrev pub IsLeftBy : Bool → ℕ → List Call → Type 0
IsLeftBy true client made = made ≡ []
IsLeftBy false client made = (reply : Result Reply HubStop) × (made ≡ (disconnect client, reply) ∷ [])

-- a session: its exchanges, in order, and the calls that were made when it had ended
pub record Session : Type 0 where
  pub exchanges : List Exchange
  pub leaving : List Call

-- all calls of a session
abbrev pub calls_of : Session → List Call
calls_of s = calls_in s.exchanges ++ s.leaving

-- It began without a client. What came of each message is so, and at the end the hub was told that the client
-- is gone where there still was one.
pub record IsSession (s : Session) : Type 0 where
  pub exchanged : AreExchanged 0 s.exchanges
  pub left : IsLeftBy (client_then 0 s.exchanges == 0) (client_then 0 s.exchanges) s.leaving

-- What a desk has dealt since it was another: the exchanges by which its pass and its client went on, and what
-- was answered.
pub record HasDealt {R : Type 0} (x y : HubDesk R) (told told' : List (ClientMsg × ServerMsg)) : Type 0 where
  pub exchanges : List Exchange
  pub called : HasCalled x.pass y.pass (calls_in exchanges)
  pub exchanged : AreExchanged x.client exchanges
  pub client : y.client ≡ client_then x.client exchanges
  pub told_are : told' ≡ told ++ deals_in exchanges
