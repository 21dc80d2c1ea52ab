-- Events and replies of the core, as the definitions have them.
use Rattle.std.specs.Prelude.{ℕ, ⊤, Bool, true, false, List, Option, Some, None}
use Rattle.std.specs.Option.{option_map}
use Rattle.hmr_types.specs.declared.analysis.Outcome.{Outcome}
use Rattle.hmr_types.specs.declared.analysis.Outcome.TheVariants.{Good, Bad}
use Rattle.update_msgs.specs.declared.message.ServerMsg.{ServerMsg}
use Rattle.update_msgs.specs.declared.message.ServerMsg.TheVariants as msg
use Rattle.update_msgs.specs.Writable.{IsFormat, IsWritable}
use Rattle.core_model.specs.Names.{Name}
use Rattle.core_model.specs.Sources.{edit, result, EditAnswer, job, same, removed, edit_refused}
use Rattle.core_model.specs.Requests.{ask, fetch, applied_as, aborted, invalidate}
use Rattle.core_model.specs.Requests as reply
use Rattle.core_model.specs.Core as model
use Rattle.version_map.specs.Standing.{settled_as}
use Rattle.version_map.specs.declared.outcome.EditOutcome.TheVariants as edits
use Rattle.events_and_replies.specs.declared.event.Event.{Event}
use Rattle.events_and_replies.specs.declared.event.Event.TheVariants as events
use Rattle.events_and_replies.specs.declared.event.Reply.{Reply}
use Rattle.events_and_replies.specs.declared.event.Reply.TheVariants as replies

-- an event, as the definitions have it
abbrev pub event_of : Event → model.Event
event_of (events.Edit n t) = model.change (edit n (option_map (λ v. v.items) t))
event_of (events.Settle t v) = model.change (result t.name t.text t.outcome v)
event_of (events.Connect names) = model.connect names.items
event_of (events.Ask i) = model.request i ask
event_of (events.Fetch i n) = model.request i (fetch n)
event_of (events.Applied i table) = model.request i (applied_as table)
event_of (events.Aborted i) = model.request i aborted
event_of (events.Invalidate i n v) = model.request i (invalidate n v)
event_of (events.Disconnect i) = model.disconnect i

-- the answer to an edit, as the core says it
abbrev pub edit_said : EditAnswer → Reply
edit_said (job v) = replies.Edited (edits.Job v)
edit_said same = replies.Edited edits.Same
edit_said (removed v) = replies.Edited (edits.Removed v)
edit_said (edit_refused refusal) = replies.EditRefused refusal

-- a reply, as the core says it
abbrev pub said : reply.Reply → Reply
said (reply.edited answer) = edit_said answer
said (reply.settled answer) = replies.Settled (settled_as answer)
said (reply.to_client message) = replies.To message
said (reply.refused refusal) = replies.Refused refusal
said reply.gone = replies.Gone

-- a message that is answered can be written in both formats
abbrev pub IsWritten : Reply → Type 0
IsWritten (replies.Edited outcome) = ⊤
IsWritten (replies.EditRefused refusal) = ⊤
IsWritten (replies.Settled settled) = ⊤
IsWritten (replies.To message) = (format : ℕ) → IsFormat format → IsWritable format message
IsWritten (replies.Refused refusal) = ⊤
IsWritten replies.Gone = ⊤

abbrev path_in : ServerMsg → Option (List Name)
path_in (msg.Connected client roots) = None
path_in (msg.Update replaced updates batch triggered) = None
path_in (msg.Prune paths) = None
path_in (msg.FullReload cause path batch triggered) = Some path
path_in (msg.Error n line column word) = None
path_in (msg.Broken n line column word) = None
path_in msg.Idle = None
path_in msg.Done = None
path_in (msg.Text n v t) = None
path_in (msg.Missing n) = None
path_in (msg.NotYet n) = None
path_in (msg.Refused code n told kept) = None

-- the path that a full reload tells
abbrev pub reload_path : Reply → Option (List Name)
reload_path (replies.Edited outcome) = None
reload_path (replies.EditRefused refusal) = None
reload_path (replies.Settled settled) = None
reload_path (replies.To message) = path_in message
reload_path (replies.Refused refusal) = None
reload_path replies.Gone = None

-- a good result
abbrev pub is_good : Outcome → Bool
is_good (Good a) = true
is_good (Bad f) = false
