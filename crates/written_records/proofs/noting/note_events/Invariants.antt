use Rattle.std.proofs.Common.{take}
use Rattle.std.specs.Prelude.{All}
use Rattle.module_semantics.specs.Analysis.{transformed}
use Rattle.module_semantics.specs.ModuleText.{parsing}
use Rattle.core_model.specs.Transcript.{IsTrueEvent}
use Rattle.events_and_replies.specs.Said.{event_of}
use Rattle.record_agreement.specs.Recordable.{IsRecordable}
use Rattle.written_records.proofs.noting.note_events.Given as goal

-- the events so far are such
abbrev pub invariant-loop-event : goal.invariant-loop-event
invariant-loop-event l =
    All (λ event. IsRecordable (event_of event)) (take l.event-index l.events)
    × All (λ event. IsTrueEvent (transformed parsing) (event_of event)) (take l.event-index l.events)
