-- What is answered to a question, in the state that a transcript makes.
use Rattle.std.specs.Prelude.{◌≡◌, ℕ, Bool, true, false, ⊤, List, map, Result, Ok, Err, IfOk}
use Prim.{⊥}
use Rattle.core_model.specs.Names.{Name}
use Rattle.core_model.specs.Core.{Event}
use Rattle.core_model.specs.Transcript.{Recorded, events_of, reply_after}
use Rattle.update_msgs.specs.declared.desk.HubStop.{HubStop}
use Rattle.update_msgs.specs.declared.desk.HubStop.TheVariants.{TranscriptFull, NoMemory}
use Rattle.events_and_replies.specs.declared.event.Reply.{Reply}
use Rattle.events_and_replies.specs.Said.{IsWritten, event_of, said}
use Rattle.turn_lock.specs.Histories.{grown}
use Rattle.hmr_hub.specs.declared.hub_reply.HubReply.{HubReply}
use Rattle.hmr_hub.specs.declared.hub_reply.HubReply.TheVariants as hub_reply
use Rattle.hmr_hub.specs.Questions.{Asked, tell, outstanding, report, events, transcript_of}
use Rattle.hmr_hub.specs.Recordings.{Recording}
use Rattle.hmr_hub.specs.Reports.{report_of}
use Rattle.transcripts.specs.Transcripts.{IsTranscript, is_full, is_outstanding}

-- the reply is the step's after the transcript, which had a place for the event, and can be written
pub record IsReply (roots : List Name) (before : List Recorded) (event : Event)
    (reply : Reply) : Type 0 where
  pub is : said (reply_after roots before event) ≡ reply
  pub written : IsWritten reply
  pub room : is_full before event ≡ false

-- a reply; or the transcript had no place for the event, or it had one and there was no memory
abbrev pub IsOutcome : List Name → List Recorded → Event → Result Reply HubStop → Type 0
IsOutcome roots before event (Ok reply) = IsReply roots before event reply
IsOutcome roots before event (Err TranscriptFull) = is_full before event ≡ true
IsOutcome roots before event (Err NoMemory) = is_full before event ≡ false

-- an event that is answered is recorded, and nothing else is
abbrev pub is_recorded : Result Reply HubStop → Bool
is_recorded (Ok reply) = true
is_recorded (Err stop) = false

-- an answer to a question, and whether it was recorded
abbrev pub IsAnswer : List Name → List Recorded → Asked → HubReply → Bool → Type 0
IsAnswer roots before (tell event) (hub_reply.Told result) kept =
    (kept ≡ is_recorded result) × IsOutcome roots before event result
IsAnswer roots before (tell event) (hub_reply.Outstanding told) kept = ⊥
IsAnswer roots before (tell event) (hub_reply.Report lines) kept = ⊥
IsAnswer roots before (tell event) (hub_reply.Events told) kept = ⊥
IsAnswer roots before (outstanding n) (hub_reply.Told result) kept = ⊥
IsAnswer roots before (outstanding n) (hub_reply.Outstanding told) kept =
    (kept ≡ false) × (told ≡ is_outstanding roots before n)
IsAnswer roots before (outstanding n) (hub_reply.Report lines) kept = ⊥
IsAnswer roots before (outstanding n) (hub_reply.Events told) kept = ⊥
IsAnswer roots before report (hub_reply.Told result) kept = ⊥
IsAnswer roots before report (hub_reply.Outstanding told) kept = ⊥
IsAnswer roots before report (hub_reply.Report lines) kept =
    (kept ≡ false) × IfOk lines (λ told. told.items ≡ report_of roots before)
IsAnswer roots before report (hub_reply.Events told) kept = ⊥
IsAnswer roots before events (hub_reply.Told result) kept = ⊥
IsAnswer roots before events (hub_reply.Outstanding told) kept = ⊥
IsAnswer roots before events (hub_reply.Report lines) kept = ⊥
IsAnswer roots before events (hub_reply.Events told) kept =
    (kept ≡ false) × IfOk told (λ told. map event_of told.items ≡ events_of before)

-- it is the answer to an event
abbrev pub IsTold : HubReply → Type 0
IsTold (hub_reply.Told result) = ⊤
IsTold (hub_reply.Outstanding told) = ⊥
IsTold (hub_reply.Report lines) = ⊥
IsTold (hub_reply.Events told) = ⊥

-- it is the answer to whether a result hasn't come
abbrev pub IsOutstandingTold : HubReply → Type 0
IsOutstandingTold (hub_reply.Told result) = ⊥
IsOutstandingTold (hub_reply.Outstanding told) = ⊤
IsOutstandingTold (hub_reply.Report lines) = ⊥
IsOutstandingTold (hub_reply.Events told) = ⊥

-- it is the answer to what there is to report
abbrev pub IsReported : HubReply → Type 0
IsReported (hub_reply.Told result) = ⊥
IsReported (hub_reply.Outstanding told) = ⊥
IsReported (hub_reply.Report lines) = ⊤
IsReported (hub_reply.Events told) = ⊥

-- it is the answer to which events were told
abbrev pub IsEventsTold : HubReply → Type 0
IsEventsTold (hub_reply.Told result) = ⊥
IsEventsTold (hub_reply.Outstanding told) = ⊥
IsEventsTold (hub_reply.Report lines) = ⊥
IsEventsTold (hub_reply.Events told) = ⊤

-- the answer in the state that a history makes of the opening value, and what the history then is
pub record Answers (opening : Recording) (history : List (ℕ × Asked)) (by : ℕ) (asked : Asked)
    (told : HubReply) (kept : Bool) : Type 0 where
  pub is : IsAnswer opening.roots (transcript_of history) asked told kept
  pub transcript : IsTranscript opening.roots (transcript_of (grown history by asked kept))
