use Rattle.std.proofs.Common.{◌≡◌, map, take}
use Rattle.core_model.specs.Transcript.{events_of}
use Rattle.events_and_replies.specs.Said.{event_of}
use Rattle.transcripts.specs.KeptEvents.{entry_of}
use Rattle.transcripts.proofs.events.events_in.Given as goal

-- the events so far are those of the entries so far
abbrev pub invariant-loop-entry : goal.invariant-loop-entry
invariant-loop-entry l = map event_of l.events.items ≡ events_of (map entry_of (take l.entry-index l.entries))
