-- The message that a reply is, and the client that a desk has after it.
use Rattle.std.specs.Prelude.{ℕ, Bool, Option, Some, None, if◌then◌else◌}
use Rattle.update_msgs.specs.declared.message.ServerMsg.{ServerMsg}
use Rattle.update_msgs.specs.declared.message.ServerMsg.TheVariants as msg
use Rattle.core_model.specs.Exchange.{refusal_message}
use Rattle.events_and_replies.specs.declared.event.Reply.{Reply}
use Rattle.events_and_replies.specs.declared.event.Reply.TheVariants as replies

-- the client that an answer gives; else the one before
abbrev pub connected_or : ℕ → ServerMsg → ℕ
connected_or client (msg.Connected i roots) = i
connected_or client (msg.Update replaced updates batch triggered) = client
connected_or client (msg.Prune paths) = client
connected_or client (msg.FullReload cause path batch triggered) = client
connected_or client (msg.Error n row column word) = client
connected_or client (msg.Broken n row column word) = client
connected_or client msg.Idle = client
connected_or client msg.Done = client
connected_or client (msg.Text n v t) = client
connected_or client (msg.Missing n) = client
connected_or client (msg.NotYet n) = client
connected_or client (msg.Refused code n told kept) = client

-- the client of a desk after an answer, 0 for none; after the last message there is none
abbrev pub client_after : ℕ → Bool → ServerMsg → ℕ
client_after client bye answer = if bye then 0 else connected_or client answer

-- the message that a reply to a client is; the other replies are none
abbrev pub message_in : Reply → Option ServerMsg
message_in (replies.Edited outcome) = None
message_in (replies.EditRefused refusal) = None
message_in (replies.Settled settled) = None
message_in (replies.To message) = Some message
message_in (replies.Refused refusal) = Some (refusal_message refusal)
message_in replies.Gone = Some msg.Done
