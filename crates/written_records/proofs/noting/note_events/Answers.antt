use Rattle.std.proofs.Common.{List, subst}
use Rattle.std.specs.Prelude.{All}
use Rattle.std.proofs.lemmas.List.{take_all}
use Rattle.std.proofs.lemmas.List.Elements.{All-more}
use Rattle.module_semantics.specs.Analysis.{transformed}
use Rattle.module_semantics.specs.ModuleText.{parsing}
use Rattle.core_model.specs.Transcript.{IsTrueEvent}
use Rattle.events_and_replies.specs.Said.{event_of}
use Rattle.events_and_replies.specs.declared.event.Event.{Event}
use Rattle.record_agreement.specs.Recordable.{IsRecordable}
use Rattle.written_records.proofs.noting.note_events.Goals as goal

abbrev Told : Event → Type 0
Told event = IsRecordable (event_of event)

abbrev True : Event → Type 0
True event = IsTrueEvent (transformed parsing) (event_of event)

pub loop-event-preserved : goal.loop-event-preserved
loop-event-preserved c = (
  All-more Told c.args.events.now c.loop-event.event-index c.event-item.result c.loop-event-test.true c.loop-event.invariant.0 (subst Told c.event-item.is c.note_recordable.ensures),
  All-more True c.args.events.now c.loop-event.event-index c.event-item.result c.loop-event-test.true c.loop-event.invariant.1 (subst True c.event-item.is c.note_result.ensures),
)

pub returns-clause-recordable : goal.returns-clause-recordable
returns-clause-recordable c = subst (λ (events : List Event). All Told events) (take_all c.loop-event.event-index c.args.events.now c.loop-event-test.false) c.loop-event.invariant.0

pub returns-clause-true_results : goal.returns-clause-true_results
returns-clause-true_results c = subst (λ (events : List Event). All True events) (take_all c.loop-event.event-index c.args.events.now c.loop-event-test.false) c.loop-event.invariant.1
