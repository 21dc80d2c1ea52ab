-- The bytes of an event are among those of all entries.
use Rattle.std.proofs.Common.{◌≡◌, ◌+◌, ◌≤◌, ℕ, List, [], ◌∷◌, map, arith}
use Rattle.std.specs.Prelude.{All}
use Rattle.std.proofs.lemmas.List.Elements.{All-cons, All-nil}
use Rattle.std.proofs.lemmas.List.Sums.{sum_by-cons}
use Rattle.core_model.specs.Transcript.{Recorded, event_bytes, transcript_bytes}
use Rattle.transcripts.specs.declared.kept_event.Entry.{Entry}
use Rattle.transcripts.specs.KeptEvents.{entry_of, kept_as}

-- the event of an entry has no more bytes than all entries
pub small_events : (entries : List Entry) (most : ℕ) → transcript_bytes (map entry_of entries) ≤ most → All (λ (entry : Entry). event_bytes (kept_as entry.event) ≤ most) entries
small_events [] most small = All-nil (λ (entry : Entry). event_bytes (kept_as entry.event) ≤ most)
small_events (entry ∷ entries) most small =
    let sum : transcript_bytes (map entry_of (entry ∷ entries)) ≡ 64 + event_bytes (kept_as entry.event) + transcript_bytes (map entry_of entries) = sum_by-cons (λ (e : Recorded). 64 + event_bytes e.1) (entry_of entry) (map entry_of entries) in
    All-cons (λ (entry : Entry). event_bytes (kept_as entry.event) ≤ most) entry entries (omega (arith, sum, small)) (small_events entries most (omega (arith, sum, small)))
