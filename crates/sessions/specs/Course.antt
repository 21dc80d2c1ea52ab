-- What goes on between a link and a desk: the messages that were taken, what the desk was asked and
-- answered, and what was sent.
use Rattle.std.specs.Prelude.{◌≡◌, ◌≢◌, ◌⊎◌, ℕ, List, [], ◌∷◌, ◌++◌, Option, Result, Ok, Err, ⊤}
use Prim.{⊥}
use Rattle.std.specs.List.{All, AllZip}
use Rattle.serde_json.specs.Data.{Data}
use Rattle.update_msgs.specs.declared.message.ClientMsg.{ClientMsg}
use Rattle.update_msgs.specs.declared.message.ClientMsg.TheVariants as msg
use Rattle.update_msgs.specs.declared.message.ServerMsg.{ServerMsg}
use Rattle.message_text.specs.Values.{HasReading}
use Rattle.message_text.specs.ClientText.{say}
use Rattle.message_text.specs.ServerText.{server_text}
use Rattle.message_json.specs.declared.fault.MsgFault.{MsgFault}
use Rattle.message_json.specs.declared.fault.MsgFault.TheVariants as faults
use Rattle.message_json.specs.Reading.{Fails}
use Rattle.message_json.specs.ClientReading.{client_of}
use Rattle.transport.specs.Told.{told_and, told_front, IsNoneLeft}
use Rattle.sessions.specs.declared.ended.Ended.{Ended}
use Rattle.sessions.specs.declared.ended.Ended.TheVariants.{Closed, LinkFault, BadMessage, Stopped}
use Rattle.sessions.specs.declared.ended.Ended.TheVariants.{NoMemory, Unexpected, InstancesFull}

-- bytes read as this message
pub record Reads (bytes : List ℕ) (m : ClientMsg) : Type 0 where
  pub reading : HasReading bytes (say m)
  pub message : client_of (say m) ≡ Ok m

-- bytes read as no message, by this fault
pub record IsRefused (bytes : List ℕ) (fault : MsgFault) : Type 0 where
  pub fails : (d : Data) → HasReading bytes d → Fails fault (client_of d)
  pub known : fault ≢ faults.NoMemory

-- bytes read as some message
abbrev pub IsMessage : List ℕ → Type 0
IsMessage bytes = (m : ClientMsg) × Reads bytes m

-- messages with their answers, in order
abbrev pub Deals : Type 0
Deals = List (ClientMsg × ServerMsg)

-- the format of answers from a message on: a hello names it
abbrev pub format_after : ℕ → ClientMsg → ℕ
format_after format (msg.Hello named roots) = named
format_after format msg.Ask = format
format_after format (msg.Fetch path) = format
format_after format (msg.Applied table) = format
format_after format (msg.Aborted cause path from name) = format
format_after format (msg.Invalidate path version message) = format
format_after format msg.Bye = format

-- the format of answers after so many
abbrev pub last_format : ℕ → Deals → ℕ
last_format format [] = format
last_format format (deal ∷ deals) = last_format (format_after format deal.0) deals

-- the texts of the answers, each in the format of the last hello
abbrev pub texts : ℕ → Deals → List (List ℕ)
texts format [] = []
texts format (deal ∷ deals) =
    server_text (format_after format deal.0) deal.1 ∷ texts (format_after format deal.0) deals

-- what was taken reads as the messages that were answered
abbrev pub ReadAs : List (List ℕ) → Deals → Type 0
ReadAs taken deals = AllZip (λ bytes deal. Reads bytes deal.0) taken deals

-- all that was taken was answered, and each answer sent
pub record AllSent (format : ℕ) (taken sent : List (List ℕ)) (deals : Deals) : Type 0 where
  pub reads : ReadAs taken deals
  pub sent_is : sent ≡ texts format deals

-- all but the last, perhaps
abbrev pub IsAllButLast : List (List ℕ) → List (List ℕ) → Type 0
IsAllButLast sent all = (sent ≡ all) ⊎ ((last : List ℕ) × (sent ++ last ∷ [] ≡ all))

-- no bye was answered
abbrev pub HasNoBye : Deals → Type 0
HasNoBye deals = All (λ deal. deal.0 ≢ msg.Bye) deals

-- a bye was answered, as the last
pub record EndsInBye (deals : Deals) : Type 0 where
  pub front : Deals
  pub answer : ServerMsg
  pub deals_are : deals ≡ front ++ (msg.Bye, answer) ∷ []
  pub no_bye : HasNoBye front

-- each answer was sent but for the last, which may be that to a bye
pub record LastUnsent (format : ℕ) (sent : List (List ℕ)) (deals : Deals) : Type 0 where
  pub front : Deals
  pub last : ClientMsg × ServerMsg
  pub deals_are : deals ≡ front ++ last ∷ []
  pub sent_are : sent ≡ texts format front
  pub no_bye : HasNoBye front

-- all that was taken was answered, and each answer sent, but perhaps for the last
pub record AllButLastSent (format : ℕ) (taken sent : List (List ℕ)) (deals : Deals) : Type 0 where
  pub reads : ReadAs taken deals
  pub sent_are : ((sent ≡ texts format deals) × HasNoBye deals) ⊎ LastUnsent format sent deals

-- the same as all sent with no bye, but that one message more was taken, of which this holds
pub record OneMore (Last : List ℕ → Type 0) (format : ℕ) (taken sent : List (List ℕ))
    (deals : Deals) : Type 0 where
  pub front : List (List ℕ)
  pub last : List ℕ
  pub taken_are : taken ≡ front ++ last ∷ []
  pub last_is : Last last
  pub before : AllSent format front sent deals
  pub no_bye : HasNoBye deals

-- how far a session has come: it goes on in a format, or it ended. It ends with the first bye that it answers.
abbrev pub Comes : Result ℕ Ended → ℕ → List (List ℕ) → List (List ℕ) → Deals → Option (List (List ℕ))
    → Type 0
Comes (Ok now) format taken sent deals left =
    AllSent format taken sent deals × (now ≡ last_format format deals) × HasNoBye deals
Comes (Err Closed) format taken sent deals left =
    AllSent format taken sent deals × (EndsInBye deals ⊎ (HasNoBye deals × IsNoneLeft left))
Comes (Err LinkFault) format taken sent deals left = AllButLastSent format taken sent deals
Comes (Err (BadMessage fault)) format taken sent deals left =
    OneMore (λ bytes. IsRefused bytes fault) format taken sent deals
Comes (Err Stopped) format taken sent deals left = OneMore IsMessage format taken sent deals
Comes (Err NoMemory) format taken sent deals left =
    AllButLastSent format taken sent deals ⊎ OneMore (λ bytes. ⊤) format taken sent deals
Comes (Err (Unexpected wanted got)) format taken sent deals left = ⊥
Comes (Err InstancesFull) format taken sent deals left = ⊥

-- what was taken of a link, asked of a desk and sent to the link, where each tells it, and how far the
-- session has come by that, which began in a format
pub record Course (format : ℕ) (left left' sent sent' : Option (List (List ℕ))) (told told' : Option Deals)
    (so_far : Result ℕ Ended) : Type 0 where
  pub takes : List (List ℕ)
  pub sends : List (List ℕ)
  pub deals : Deals
  pub left_is : left ≡ told_front takes left'
  pub sent_is : sent' ≡ told_and sent sends
  pub told_is : told' ≡ told_and told deals
  pub comes : Comes so_far format takes sends deals left'
