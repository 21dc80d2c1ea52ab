-- What goes on between a client and a link.
use Rattle.std.specs.Prelude.{◌≡◌, ◌⊎◌, ◌==◌, ◌≤◌, ◌+◌, [], ◌∷◌, ◌++◌, ⊤}
use Rattle.std.specs.Prelude.{ℕ, List, length, map, Option, Result, Ok, Err}
use Prim.{⊥}
use Rattle.std.specs.List.{AllZip}
use Rattle.output_lines.specs.declared.out_line.OutLine.{OutLine}
use Rattle.update_msgs.specs.declared.message.ServerMsg.{ServerMsg}
use Rattle.message_text.specs.ClientText.{client_text}
use Rattle.transport.specs.Told.{told_and, told_front, IsNoneLeft}
use Rattle.client_model.specs.Past.{Past, message}
use Rattle.client_model.specs.Runtime.{Opening}
use Rattle.client_model.specs.Taking.{took}
use Rattle.runtime_state.specs.Standing.{StandsFor}
use Rattle.runtime_state.specs.declared.runtime.HotRuntime.{HotRuntime}
use Rattle.sessions.specs.Course.{IsAllButLast}
use Rattle.sessions.specs.declared.ended.Ended.{Ended}
use Rattle.sessions.specs.declared.ended.Ended.TheVariants.{Closed, LinkFault, BadMessage, Stopped}
use Rattle.sessions.specs.declared.ended.Ended.TheVariants.{NoMemory, Unexpected, InstancesFull}
use Rattle.client_sessions.specs.Asking.{AllTaken, asked_after, taken_after, past_after}
use Rattle.client_sessions.specs.Asking.{requests, lines_of, next_asked}
use Rattle.client_sessions.specs.Exchange.{Exchanged, Ends, ReadsIn, IsRefusedIn, takes_by}

-- one answer was taken, and its lines put behind those before
pub record TurnTaken {F : Type 0} (opening : Opening) (past : Past) (format : ℕ)
    (left left' sent sent' : Option (List (List ℕ)))
    (h' : HotRuntime F) (lines lines' : List OutLine) : Type 0 where
  pub answer : ServerMsg
  pub more : List OutLine
  pub exchanged : Exchanged format (asked_after opening past) left left' sent sent' answer
  pub taken : taken_after opening past answer ≡ took more
  pub lines_are : lines' ≡ lines ++ more
  pub stands : StandsFor opening (message answer ∷ past) h'

-- the session ended at the request that stood, and no line came of it
pub record TurnEnded (opening : Opening) (past : Past) (format : ℕ)
    (left left' sent sent' : Option (List (List ℕ)))
    (lines lines' : List OutLine) (ended : Ended) : Type 0 where
  pub ends : Ends format (asked_after opening past) (takes_by opening past) left left' sent sent' ended
  pub lines_are : lines' ≡ lines

-- the one or the other
abbrev pub Turns : {F : Type 0} → Opening → Past → ℕ → Option (List (List ℕ)) → Option (List (List ℕ))
    → Option (List (List ℕ)) → Option (List (List ℕ)) → HotRuntime F → List OutLine → List OutLine
    → Result ⊤ Ended → Type 0
Turns opening past format left left' sent sent' h' lines lines' (Ok done) =
    TurnTaken opening past format left left' sent sent' h' lines lines'
Turns opening past format left left' sent sent' h' lines lines' (Err ended) =
    TurnEnded opening past format left left' sent sent' lines lines' ended

-- the texts of the requests that were answered so
abbrev pub said : Opening → List ServerMsg → List (List ℕ)
said opening answers = map client_text (requests opening [] answers)

-- so many requests of a new runtime were answered and each answer taken, and it stands for these
pub record Talked {F : Type 0} (opening : Opening) (count format : ℕ)
    (left left' sent sent' : Option (List (List ℕ)))
    (h' : HotRuntime F) (lines' : List OutLine) : Type 0 where
  pub takes : List (List ℕ)
  pub answers : List ServerMsg
  pub left_is : left ≡ told_front takes left'
  pub sent_is : sent' ≡ told_and sent (said opening answers)
  pub reads : AllZip (ReadsIn format) takes answers
  pub counted : length answers ≡ count
  pub taken : AllTaken opening [] answers
  pub lines_are : lines' ≡ lines_of opening [] answers
  pub stands : StandsFor opening (past_after [] answers) h'

-- the texts of hello, of the requests after it, and at last of bye: as many as are known once these answers
-- came
abbrev pub asks : Opening → ℕ → List ServerMsg → List (List ℕ)
asks opening turns answers =
    said opening answers
    ++ client_text (next_asked (length answers == turns + 1) opening (past_after [] answers)) ∷ []

-- the answers were read, and one message more, of which this holds
pub record OneMoreRead (Last : List ℕ → Type 0) (format : ℕ) (taken : List (List ℕ))
    (answers : List ServerMsg) : Type 0 where
  pub front : List (List ℕ)
  pub last : List ℕ
  pub taken_are : taken ≡ front ++ last ∷ []
  pub last_is : Last last
  pub reads : AllZip (ReadsIn format) front answers

-- how far a session had come when it ended, with these answers taken by the runtime: the first that it
-- doesn't take ends it
abbrev pub ComesTo : Ended → Opening → ℕ → ℕ → List ServerMsg → List (List ℕ) → List (List ℕ)
    → Option (List (List ℕ)) → Type 0
ComesTo Closed opening turns format answers taken sent left = (sent ≡ asks opening turns answers)
    × ((AllZip (ReadsIn format) taken answers × IsNoneLeft left)
    ⊎ (OneMoreRead (λ bytes. (m : ServerMsg) × ReadsIn format bytes m) format taken answers
    × (length answers ≡ turns + 1)))
ComesTo LinkFault opening turns format answers taken sent left =
    IsAllButLast sent (asks opening turns answers) × AllZip (ReadsIn format) taken answers
ComesTo (BadMessage fault) opening turns format answers taken sent left =
    (sent ≡ asks opening turns answers)
    × OneMoreRead (λ bytes. IsRefusedIn format bytes fault) format taken answers
ComesTo Stopped opening turns format answers taken sent left = ⊥
ComesTo NoMemory opening turns format answers taken sent left =
    IsAllButLast sent (asks opening turns answers)
    × (AllZip (ReadsIn format) taken answers ⊎ OneMoreRead (λ bytes. ⊤) format taken answers)
ComesTo (Unexpected wanted got) opening turns format answers taken sent left =
    (sent ≡ asks opening turns answers)
    × OneMoreRead
    (λ bytes. (m : ServerMsg) × ReadsIn format bytes m
    × takes_by opening (past_after [] answers) m (Unexpected wanted got)) format taken answers
ComesTo InstancesFull opening turns format answers taken sent left = (sent ≡ asks opening turns answers)
    × OneMoreRead
    (λ bytes. (m : ServerMsg) × ReadsIn format bytes m
    × takes_by opening (past_after [] answers) m InstancesFull) format taken answers

-- what a client's session took of its link and sent to it, where the link tells it, the answers that its
-- runtime took, with their lines, and how far the session came by that
pub record ClientCourse (opening : Opening) (turns format : ℕ)
    (left left' sent sent' : Option (List (List ℕ))) (lines : List OutLine) (ended : Ended) : Type 0 where
  pub takes : List (List ℕ)
  pub sends : List (List ℕ)
  pub answers : List ServerMsg
  pub left_is : left ≡ told_front takes left'
  pub sent_is : sent' ≡ told_and sent sends
  pub few : length answers ≤ turns + 1
  pub taken : AllTaken opening [] answers
  pub lines_are : lines ≡ lines_of opening [] answers
  pub comes : ComesTo ended opening turns format answers takes sends left'
