use Rattle.std.proofs.Common.{◌≤◌, subst, sym}
use Rattle.std.proofs.lemmas.List.Elements.{All-get_or}
use Rattle.core_model.specs.Transcript.{event_bytes, most_bytes}
use Rattle.transcripts.specs.declared.kept_event.Entry.{Entry}
use Rattle.transcripts.specs.KeptEvents.{kept_as}
use Rattle.transcripts.proofs.Weights.{small_events}
use Rattle.transcripts.proofs.events.events_in.Goals as goal

pub event_in-requires : goal.event_in-requires
event_in-requires c =
    let small = small_events c.args.entries.now most_bytes c.requires in
    subst (λ (entry : Entry). event_bytes (kept_as entry.event) ≤ most_bytes) (sym c.entry-item.is)
    (All-get_or (λ (entry : Entry). event_bytes (kept_as entry.event) ≤ most_bytes) c.args.entries.now c.loop-entry.entry-index c.entry-item.result c.loop-entry-test.true small)
