-- The record of events that a core was told.
use Rattle.std.specs.Prelude.{ℕ, Bool, true, false, List, [], ◌∷◌, ◌++◌, Option, Some, None}
use Rattle.update_msgs.specs.declared.message.ServerMsg.{ServerMsg}
use Rattle.update_msgs.specs.declared.message.ServerMsg.TheVariants as msg
use Rattle.core_model.specs.Core.{Core, Event, change, connect, request, disconnect, core_after}
use Rattle.core_model.specs.Names.{Name}
use Rattle.core_model.specs.Requests.{Request, ask, fetch, applied_as, aborted, invalidate}
use Rattle.core_model.specs.Sources.{edit, result}
use Rattle.server_core.specs.Reading.{is_resting, page_of}
use Rattle.record_text.specs.declared.record.Record.{Record}
use Rattle.record_text.specs.declared.record.RecordEvent.{RecordEvent}
use Rattle.record_text.specs.declared.record.RecordEvent.TheVariants as events
use Rattle.record_text.specs.declared.record.RecordLine.{RecordLine}
use Rattle.record_text.specs.declared.record.RecordLine.TheVariants as lines
use Rattle.record_text.specs.declared.reply.RecordReply.{RecordReply}
use Rattle.record_text.specs.declared.reply.RecordReply.TheVariants as told
use Rattle.record_laws.specs.Answers.{answer_text, reply_after, reply_told}

-- a request of a client, as a record tells it
abbrev pub request_told : ℕ → Request → RecordEvent
request_told client ask = events.Ask client
request_told client (fetch name) = events.Fetch client name
request_told client (applied_as table) = events.Applied client table
request_told client aborted = events.Aborted client
request_told client (invalidate name version) = events.Invalidate client name version

-- an event, as a record tells it: what transforming a text gave isn't told
abbrev pub event_told : Event → RecordEvent
event_told (change (edit name (Some text))) = events.Edit name text
event_told (change (edit name None)) = events.Remove name
event_told (change (result name text outcome version)) = events.Settle name text version
event_told (connect names) = events.Connect names
event_told (request client r) = request_told client r
event_told (disconnect client) = events.Disconnect client

-- the client whose request it is
abbrev pub client_in : Event → Option ℕ
client_in (change ch) = None
client_in (connect names) = None
client_in (request client r) = Some client
client_in (disconnect client) = None

abbrev pub is_done_message : ServerMsg → Bool
is_done_message (msg.Connected client roots) = false
is_done_message (msg.Update replaced updates batch triggered) = false
is_done_message (msg.Prune paths) = false
is_done_message (msg.FullReload cause path batch triggered) = false
is_done_message (msg.Error n line column word) = false
is_done_message (msg.Broken n line column word) = false
is_done_message msg.Idle = false
is_done_message msg.Done = true
is_done_message (msg.Text n v t) = false
is_done_message (msg.Missing n) = false
is_done_message (msg.NotYet n) = false
is_done_message (msg.Refused code n told kept) = false

-- the reply is the message Done
abbrev pub is_done : RecordReply → Bool
is_done (told.Job version) = false
is_done told.Same = false
is_done (told.Removed version) = false
is_done (told.EditRefused refusal) = false
is_done told.Served = false
is_done (told.RefusedText fault) = false
is_done told.Late = false
is_done (told.Message message) = is_done_message message
is_done told.Gone = false

-- the line of a client, where it is at rest with this page
abbrev pub rest_line : Bool → Option (List (Name × ℕ)) → ℕ → List RecordLine
rest_line true (Some table) client = lines.Rest client table ∷ []
rest_line true None client = []
rest_line false page client = []

-- the line of a client, where there is one and it is at rest
abbrev pub rest_lines : Core → Option ℕ → List RecordLine
rest_lines core None = []
rest_lines core (Some client) = rest_line (is_resting core client) (page_of core client) client

-- the same behind a Done, and behind no other reply
abbrev pub lines_behind : Bool → Core → Option ℕ → List RecordLine
lines_behind true core client = rest_lines core client
lines_behind false core client = []

-- the entry of an event, behind these, and the client that is at rest behind a Done
abbrev pub entry_lines : List Name → List Event → Event → List RecordLine
entry_lines roots past event =
    lines.Entry (event_told event) (answer_text roots past event)
    ∷ lines_behind (is_done (reply_told (reply_after roots past event)))
    (core_after roots (event ∷ past)) (client_in event)

-- the lines of events, behind these
abbrev pub lines_told : List Name → List Event → List Event → List RecordLine
lines_told roots past [] = []
lines_told roots past (event ∷ more) = entry_lines roots past event ++ lines_told roots (event ∷ past) more

-- the record of the events that a core of these roots was told, in their order
abbrev pub record_told : List Name → List Event → Record
record_told roots events = record { roots = roots; lines = lines_told roots [] events }
