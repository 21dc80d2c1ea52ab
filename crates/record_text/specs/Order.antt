-- What may come next in a record. Where an event may come, the record may end.
use Rattle.std.specs.Prelude.{Bool, true, false}
use Rattle.record_text.specs.declared.next.Next.{Next}
use Rattle.record_text.specs.declared.record.RecordEvent.{RecordEvent}
use Rattle.record_text.specs.declared.record.RecordEvent.TheVariants as events
use Rattle.record_text.specs.declared.said.Said.{Said}
use Rattle.record_text.specs.declared.said.Said.TheVariants as says

-- a record begins with a root
abbrev pub at_first : Next
at_first = record { root = true; event = false; text = false; reply = false; rest = false }

abbrev pub after_root : Next
after_root = record { root = true; event = true; text = false; reply = false; rest = false }

-- an event that has a text may have pieces of it below, and each event has its reply
abbrev pub has_text : RecordEvent → Bool
has_text (events.Edit name text) = true
has_text (events.Remove name) = false
has_text (events.Settle name text version) = true
has_text (events.Connect names) = false
has_text (events.Ask client) = false
has_text (events.Fetch client name) = false
has_text (events.Applied client table) = false
has_text (events.Aborted client) = false
has_text (events.Invalidate client name version) = false
has_text (events.Disconnect client) = false

abbrev pub after_event : RecordEvent → Next
after_event event = record { root = false; event = false; text = has_text event; reply = true; rest = false }

abbrev pub after_text : Next
after_text = record { root = false; event = false; text = true; reply = true; rest = false }

-- no piece comes below one that no LF ends
abbrev pub after_last : Next
after_last = record { root = false; event = false; text = false; reply = true; rest = false }

-- one client at most is at rest behind an entry
abbrev pub after_reply : Next
after_reply = record { root = false; event = true; text = false; reply = false; rest = true }

abbrev pub after_rest : Next
after_rest = record { root = false; event = true; text = false; reply = false; rest = false }

-- what may come behind a line that says this
abbrev pub after : Said → Next
after (says.Root name) = after_root
after (says.Event event) = after_event event
after (says.Text piece) = after_text
after (says.Last piece) = after_last
after (says.Reply reply) = after_reply
after (says.Rest client table) = after_rest

-- whether a line that says this may come
abbrev pub may_stand : Said → Next → Bool
may_stand (says.Root name) next = next.root
may_stand (says.Event event) next = next.event
may_stand (says.Text piece) next = next.text
may_stand (says.Last piece) next = next.text
may_stand (says.Reply reply) next = next.reply
may_stand (says.Rest client table) next = next.rest
