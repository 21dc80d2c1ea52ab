-- One request and its answer over a link.
use Rattle.std.specs.Prelude.{◌≡◌, ◌≢◌, ◌⊎◌, ℕ, List, [], ◌∷◌, Option, Ok, ⊤}
use Prim.{⊥}
use Rattle.serde_json.specs.Data.{Data}
use Rattle.update_msgs.specs.declared.message.ClientMsg.{ClientMsg}
use Rattle.update_msgs.specs.declared.message.ServerMsg.{ServerMsg}
use Rattle.message_text.specs.Values.{HasReading}
use Rattle.message_text.specs.ClientText.{client_text}
use Rattle.message_text.specs.ServerText.{tell}
use Rattle.message_json.specs.declared.fault.MsgFault.{MsgFault}
use Rattle.message_json.specs.declared.fault.MsgFault.TheVariants as faults
use Rattle.message_json.specs.Reading.{Fails}
use Rattle.message_json.specs.ServerReading.{server_of}
use Rattle.transport.specs.Told.{told_and, told_front, IsNoneLeft}
use Rattle.client_model.specs.Past.{Past}
use Rattle.client_model.specs.Runtime.{Opening}
use Rattle.client_model.specs.Taking.{unexpected, instances_full}
use Rattle.sessions.specs.Course.{IsAllButLast}
use Rattle.sessions.specs.declared.ended.Ended.{Ended}
use Rattle.sessions.specs.declared.ended.Ended.TheVariants.{Closed, LinkFault, BadMessage, Stopped}
use Rattle.sessions.specs.declared.ended.Ended.TheVariants.{NoMemory, Unexpected, InstancesFull}
use Rattle.client_sessions.specs.Asking.{taken_after}

-- bytes read in a format as this message
pub record ReadsIn (format : ℕ) (bytes : List ℕ) (m : ServerMsg) : Type 0 where
  pub reading : HasReading bytes (tell format m)
  pub message : server_of format (tell format m) ≡ Ok m

-- bytes read in a format as no message, by this fault
pub record IsRefusedIn (format : ℕ) (bytes : List ℕ) (fault : MsgFault) : Type 0 where
  pub fails : (d : Data) → HasReading bytes d → Fails fault (server_of format d)
  pub known : fault ≢ faults.NoMemory

-- the request was sent, and its answer read
pub record Exchanged (format : ℕ) (asked : ClientMsg) (left left' sent sent' : Option (List (List ℕ)))
    (answer : ServerMsg) : Type 0 where
  pub bytes : List ℕ
  pub left_is : left ≡ told_front (bytes ∷ []) left'
  pub sent_is : sent' ≡ told_and sent (client_text asked ∷ [])
  pub reads : ReadsIn format bytes answer

-- one message was taken, of which this holds
abbrev pub TookOne : (List ℕ → Type 0) → List (List ℕ) → Type 0
TookOne Last taken = (bytes : List ℕ) × (taken ≡ bytes ∷ []) × Last bytes

-- one message was taken that reads as an answer at which the session ends so
abbrev pub TookLast : (ServerMsg → Ended → Type 0) → ℕ → Ended → List (List ℕ) → Type 0
TookLast Takes format ended taken =
    TookOne (λ bytes. (m : ServerMsg) × ReadsIn format bytes m × Takes m ended) taken

-- how far a request had come when the session ended
abbrev pub EndsBy : (ServerMsg → Ended → Type 0) → ℕ → List (List ℕ) → Ended → List (List ℕ) → List (List ℕ)
    → Option (List (List ℕ)) → Type 0
EndsBy Takes format asked Closed taken sent left =
    (sent ≡ asked) × (((taken ≡ []) × IsNoneLeft left) ⊎ TookLast Takes format Closed taken)
EndsBy Takes format asked LinkFault taken sent left = IsAllButLast sent asked × (taken ≡ [])
EndsBy Takes format asked (BadMessage fault) taken sent left =
    (sent ≡ asked) × TookOne (λ bytes. IsRefusedIn format bytes fault) taken
EndsBy Takes format asked Stopped taken sent left = (sent ≡ asked) × TookLast Takes format Stopped taken
EndsBy Takes format asked NoMemory taken sent left =
    IsAllButLast sent asked × ((taken ≡ []) ⊎ TookOne (λ bytes. ⊤) taken)
EndsBy Takes format asked (Unexpected wanted got) taken sent left =
    (sent ≡ asked) × TookLast Takes format (Unexpected wanted got) taken
EndsBy Takes format asked InstancesFull taken sent left =
    (sent ≡ asked) × TookLast Takes format InstancesFull taken

-- the session ended at this request
pub record Ends (format : ℕ) (asked : ClientMsg) (Takes : ServerMsg → Ended → Type 0)
    (left left' sent sent' : Option (List (List ℕ))) (ended : Ended) : Type 0 where
  pub takes : List (List ℕ)
  pub sends : List (List ℕ)
  pub left_is : left ≡ told_front takes left'
  pub sent_is : sent' ≡ told_and sent sends
  pub ends : EndsBy Takes format (client_text asked ∷ []) ended takes sends left'

-- no answer ends the session
abbrev pub takes_none : ServerMsg → Ended → Type 0
takes_none m ended = ⊥

-- any answer to bye ends the session
abbrev pub takes_bye : ServerMsg → Ended → Type 0
takes_bye m ended = ended ≡ Closed

-- an answer that the runtime doesn't take ends the session
abbrev pub takes_by : Opening → Past → ServerMsg → Ended → Type 0
takes_by opening past m Closed = ⊥
takes_by opening past m LinkFault = ⊥
takes_by opening past m (BadMessage fault) = ⊥
takes_by opening past m Stopped = ⊥
takes_by opening past m NoMemory = ⊥
takes_by opening past m (Unexpected wanted got) = taken_after opening past m ≡ unexpected wanted got
takes_by opening past m InstancesFull = taken_after opening past m ≡ instances_full
