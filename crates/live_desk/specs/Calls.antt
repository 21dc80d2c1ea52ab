-- Calls of a hub that one pass made, with what came back, and their places in a transcript.
use Rattle.std.specs.Prelude.{◌≡◌, ℕ, true, ⊤, List, [], ◌∷◌, ◌++◌, flat_map, Result, Ok, Err}
use Rattle.core_model.specs.Names.{Name}
use Rattle.core_model.specs.Core.{Event}
use Rattle.core_model.specs.Transcript.{Recorded, reply_after}
use Rattle.update_msgs.specs.declared.desk.HubStop.{HubStop}
use Rattle.update_msgs.specs.declared.desk.HubStop.TheVariants.{TranscriptFull, NoMemory}
use Rattle.events_and_replies.specs.declared.event.Reply.{Reply}
use Rattle.events_and_replies.specs.Said.{said}
use Rattle.turn_lock.specs.Histories.{calls}
use Rattle.hmr_hub.specs.declared.pass.Pass.{Pass}
use Rattle.hmr_hub.specs.Passes.{number_of, roots_of, seen_of}
use Rattle.transcripts.specs.Transcripts.{is_full, recorded}
use Rattle.hmr_hub.specs.Moves.{Moved, own_of}

-- an event that the hub was told, and its reply, or why there is none
abbrev pub Call : Type 0
Call = Event × Result Reply HubStop

-- its entry under the number of its pass: none where there is no reply
abbrev pub entry_of : ℕ → Call → List Recorded
entry_of by call = recorded by call.0 call.1

abbrev pub entries_of : ℕ → List Call → List Recorded
entries_of by made = flat_map (entry_of by) made

-- The event is the entry that comes behind just these under the number, and the reply is the core's in the
-- state that all entries before it make.
pub record IsRepliedAt (roots : List Name) (entries : List Recorded) (by : ℕ) (own : List Recorded)
    (event : Event) (reply : Reply) : Type 0 where
  pub before : List Recorded
  pub after : List Recorded
  pub whole : entries ≡ before ++ (by, event) ∷ after
  pub own_are : calls (by ∷ []) before ≡ own
  pub reply_is : said (reply_after roots before event) ≡ reply

-- behind just these entries under the number the transcript had no place for the event
pub record HadNoPlace (entries : List Recorded) (by : ℕ) (own : List Recorded) (event : Event) : Type 0 where
  pub before : List Recorded
  pub after : List Recorded
  pub whole : entries ≡ before ++ after
  pub own_are : calls (by ∷ []) before ≡ own
  pub full : is_full before event ≡ true

-- what came back is so at its own place; where memory ran out nothing is said
abbrev pub IsCallAt : List Name → List Recorded → ℕ → List Recorded → Event → Result Reply HubStop → Type 0
IsCallAt roots entries by own event (Ok reply) = IsRepliedAt roots entries by own event reply
IsCallAt roots entries by own event (Err TranscriptFull) = HadNoPlace entries by own event
IsCallAt roots entries by own event (Err NoMemory) = ⊤

-- each is so behind these entries under the number, and those of the calls before it
abbrev pub AreCallsAt : List Name → List Recorded → ℕ → List Recorded → List Call → Type 0
AreCallsAt roots entries by own [] = ⊤
AreCallsAt roots entries by own (call ∷ made) =
    IsCallAt roots entries by own call.0 call.1
    × AreCallsAt roots entries by (own ++ entry_of by call) made

-- a pass has gone on by these calls, each at its own place, and by no others
pub record HasCalled (p q : Pass) (made : List Call) : Type 0 where
  pub moved : Moved p q (entries_of (number_of p) made)
  pub each : AreCallsAt (roots_of q) (seen_of q) (number_of q) (own_of p) made
