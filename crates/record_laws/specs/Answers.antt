-- What a core answers, as a record tells it.
use Rattle.std.specs.Prelude.{ℕ, List}
use Rattle.core_model.specs.Core.{Event, core_after, step}
use Rattle.core_model.specs.Exchange.{refusal_message}
use Rattle.core_model.specs.Names.{Name}
use Rattle.version_map.specs.declared.outcome.EditOutcome.{EditOutcome}
use Rattle.version_map.specs.declared.outcome.EditOutcome.TheVariants as edits
use Rattle.version_map.specs.declared.outcome.Settled.{Settled}
use Rattle.version_map.specs.declared.outcome.Settled.TheVariants as settlings
use Rattle.events_and_replies.specs.Said.{said}
use Rattle.events_and_replies.specs.declared.event.Reply.{Reply}
use Rattle.events_and_replies.specs.declared.event.Reply.TheVariants as replies
use Rattle.record_text.specs.Told.{reply_text}
use Rattle.record_text.specs.declared.reply.RecordReply.{RecordReply}
use Rattle.record_text.specs.declared.reply.RecordReply.TheVariants as told

-- what an edit brought
abbrev pub edit_told : EditOutcome → RecordReply
edit_told (edits.Job version) = told.Job version
edit_told edits.Same = told.Same
edit_told (edits.Removed version) = told.Removed version

-- what a result brought
abbrev pub result_told : Settled → RecordReply
result_told settlings.Served = told.Served
result_told (settlings.RefusedText fault) = told.RefusedText fault
result_told settlings.Late = told.Late

-- what the core says, as a record tells it: a refused request is told as the message to its client
abbrev pub reply_told : Reply → RecordReply
reply_told (replies.Edited outcome) = edit_told outcome
reply_told (replies.EditRefused refusal) = told.EditRefused refusal
reply_told (replies.Settled settled) = result_told settled
reply_told (replies.To message) = told.Message message
reply_told (replies.Refused refusal) = told.Message (refusal_message refusal)
reply_told replies.Gone = told.Gone

-- the reply of the core of these roots to an event, after these, the newest first
abbrev pub reply_after : List Name → List Event → Event → Reply
reply_after roots past event = said (step roots (core_after roots past) event).1

-- the same as a text
abbrev pub answer_text : List Name → List Event → Event → List ℕ
answer_text roots past event = reply_text (reply_told (reply_after roots past event))
