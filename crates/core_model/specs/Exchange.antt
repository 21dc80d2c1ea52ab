-- A client's message as an event of the core, and the reply as a message to the client.
use Rattle.std.specs.Prelude.{ℕ, ◌==◌, List, [], Option, Some, None, option_map, if◌then◌else◌}
use Rattle.update_msgs.specs.declared.message.ClientMsg.{ClientMsg}
use Rattle.update_msgs.specs.declared.message.ClientMsg.TheVariants as told
use Rattle.update_msgs.specs.declared.message.ServerMsg.{ServerMsg}
use Rattle.update_msgs.specs.declared.message.ServerMsg.TheVariants as msg
use Rattle.core_model.specs.declared.refusal.Refusal.{Refusal}
use Rattle.core_model.specs.declared.refusal.Refusal.TheVariants.{UnknownClient, TooManyClients, OutOfTurn}
use Rattle.core_model.specs.declared.refusal.Refusal.TheVariants.{Mismatch, Unfetched, Ignored, BadRoots}
use Rattle.core_model.specs.Names.{Name}
use Rattle.core_model.specs.Requests.{ask, fetch, applied_as, aborted, invalidate, Reply, edited, settled}
use Rattle.core_model.specs.Requests.{to_client, refused, gone}
use Rattle.core_model.specs.Core.{Event, connect, request, disconnect}

-- the event that a message of the client with this number is
abbrev pub event_of : ℕ → ClientMsg → Event
event_of i (told.Hello format roots) = connect roots
event_of i told.Ask = request i ask
event_of i (told.Fetch n) = request i (fetch n)
event_of i (told.Applied table) = request i (applied_as table)
event_of i (told.Aborted cause n from x) = request i aborted
event_of i (told.Invalidate n v message) = request i (invalidate n v)
event_of i told.Bye = disconnect i

-- a refusal by its number, with what it names
abbrev pub refusal_message : Refusal → ServerMsg
refusal_message UnknownClient = msg.Refused 1 None None None
refusal_message TooManyClients = msg.Refused 2 None None None
refusal_message OutOfTurn = msg.Refused 3 None None None
refusal_message (Mismatch n told kept) = msg.Refused 4 (Some n) (Some told) (Some kept)
refusal_message (Unfetched n) = msg.Refused 5 (Some n) None None
refusal_message Ignored = msg.Refused 6 None None None
refusal_message BadRoots = msg.Refused 7 None None None

-- the message that a reply is; the replies to edits and results are no client's
abbrev pub message_of : Reply → Option ServerMsg
message_of (edited answer) = None
message_of (settled answer) = None
message_of (to_client m) = Some m
message_of (refused refusal) = Some (refusal_message refusal)
message_of gone = Some msg.Done

-- the batch, as a format tells it: format 1 has none
abbrev pub batch_in : ℕ → ℕ → ℕ
batch_in format batch = if format == 1 then 0 else batch

-- the names that triggered a batch, as a format tells them: format 1 has none
abbrev pub names_in : ℕ → List Name → List Name
names_in format names = if format == 1 then [] else names

-- a message as it is read in a format
abbrev pub read_in : ℕ → ServerMsg → ServerMsg
read_in format (msg.Connected client roots) = msg.Connected client roots
read_in format (msg.Update replaced updates batch triggered) =
    msg.Update replaced updates (batch_in format batch) (names_in format triggered)
read_in format (msg.Prune paths) = msg.Prune paths
read_in format (msg.FullReload cause path batch triggered) =
    msg.FullReload cause path (batch_in format batch) (names_in format triggered)
read_in format (msg.Error n row column word) = msg.Error n row column word
read_in format (msg.Broken n row column word) = msg.Broken n row column word
read_in format msg.Idle = msg.Idle
read_in format msg.Done = msg.Done
read_in format (msg.Text n v t) = msg.Text n v t
read_in format (msg.Missing n) = msg.Missing n
read_in format (msg.NotYet n) = msg.NotYet n
read_in format (msg.Refused code n told kept) = msg.Refused code n told kept

-- the message that a client of this format gets
abbrev pub message_for : ℕ → Reply → Option ServerMsg
message_for format reply = option_map (read_in format) (message_of reply)
