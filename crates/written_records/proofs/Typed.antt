-- The check says yes of the record of events, as the code has them.
use Rattle.std.proofs.Common.{◌≡◌, ◌≤◌, List, [], length, ap, arith, subst, ◌∙◌}
use Rattle.std.specs.Prelude.{All, map}
use Rattle.std.proofs.lemmas.List.{length-map}
use Rattle.std.proofs.lemmas.List.Elements.{All-from_recursion, All-map, recursion_from_All}
use Rattle.module_semantics.specs.Analysis.{transformed}
use Rattle.module_semantics.specs.ModuleText.{parsing}
use Rattle.core_model.specs.Core as model
use Rattle.core_model.specs.Formed.{IsName}
use Rattle.core_model.specs.Names.{Name}
use Rattle.core_model.specs.Roots.{AreRoots}
use Rattle.core_model.specs.Transcript.{IsLegal, Recorded, events_of, most_bytes, most_entries}
use Rattle.events_and_replies.specs.Said.{event_of}
use Rattle.events_and_replies.specs.declared.event.Event.{Event}
use Rattle.record_text.specs.Texts.{record_text}
use Rattle.record_laws.specs.Bounds.{past_bytes}
use Rattle.record_laws.specs.Course.{verdict_of}
use Rattle.record_laws.specs.Sound.{rests_behind}
use Rattle.record_laws.specs.Written.{lines_told, record_told}
use Rattle.record_laws.specs.declared.verdict.Verdict.TheVariants.{Yes}
use Rattle.record_laws.proofs.Recorded.{IsTrue}
use Rattle.record_agreement.specs.Recordable.{HasClient, IsRecordable}
use Rattle.record_agreement.proofs.Agreed.{record_confirmed, transcript_confirmed}
use Rattle.record_agreement.proofs.Lists.{each_weaker}

module _ (roots : List Name) (events : List Event) (named : All IsName roots) (recordable : All (λ event. IsRecordable (event_of event)) events) where
  pub confirmed : All (λ event. IsTrue (event_of event)) events → AreRoots roots → length events ≤ most_entries → past_bytes (map event_of events) ≤ most_bytes
      → verdict_of (record_text (record_told roots (map event_of events))) ≡ Yes (length events) (rests_behind 0 (lines_told roots [] (map event_of events)))
  confirmed results good few small =
      let same = length-map events event_of in
      record_confirmed roots (map event_of events) good named (omega (arith, same, few)) small (All-map IsTrue event_of events results) (All-map IsRecordable event_of events recordable)
      ∙ ap (λ n. Yes n (rests_behind 0 (lines_told roots [] (map event_of events)))) same

  -- the clients have the numbers of clients
  numbered : (told : List model.Event) → All IsRecordable told → All HasClient told
  numbered told h = All-from_recursion HasClient told (each_weaker IsRecordable HasClient told (λ event r. r.client) (recursion_from_All IsRecordable told h))

  pub transcribed : (entries : List Recorded) → IsLegal (transformed parsing) roots entries → map event_of events ≡ events_of entries
      → verdict_of (record_text (record_told roots (events_of entries))) ≡ Yes (length entries) (rests_behind 0 (lines_told roots [] (events_of entries)))
  transcribed entries legal told =
      transcript_confirmed roots entries legal named
      (numbered (events_of entries) (subst (All IsRecordable) told (All-map IsRecordable event_of events recordable)))
