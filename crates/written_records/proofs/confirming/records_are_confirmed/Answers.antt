use Rattle.written_records.proofs.Typed.{confirmed, transcribed}
use Rattle.written_records.proofs.confirming.records_are_confirmed.Goals as goal

pub returns-clause-events : goal.returns-clause-events
returns-clause-events c good few small =
    confirmed c.args.roots.now c.args.events.now c.note_names.ensures c.note_events.ensures.recordable c.note_events.ensures.true_results good few small

pub returns-clause-transcript : goal.returns-clause-transcript
returns-clause-transcript c entries legal told =
    transcribed c.args.roots.now c.args.events.now c.note_names.ensures c.note_events.ensures.recordable entries legal told
