use Rattle.std.proofs.Common.{drop, map}
use Rattle.record_text.specs.Texts.{record_text}
use Rattle.events_and_replies.specs.Said.{event_of}
use Rattle.record_laws.specs.Written.{record_told}
use Rattle.transcript_check.specs.Following.{IsRecording}
use Rattle.transcript_check.proofs.recording.write_record.Given as goal

-- what is written, and the lines of the events that are left, is the whole
abbrev pub invariant-loop-event : goal.invariant-loop-event
invariant-loop-event l =
    IsRecording l.roots (map event_of (drop l.event-index l.events)) l.core l.out.items (record_text (record_told l.roots (map event_of l.events)))
