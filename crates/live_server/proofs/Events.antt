-- The events of a transcript are within its bounds.
use Rattle.std.proofs.Common.{◌≡◌, ◌≤◌, ◌+◌, ℕ, List, [], ◌∷◌, length, map, refl, ap, sym, ◌∙◌, subst}
use Rattle.std.specs.Prelude.{fold}
use Rattle.std.proofs.lemmas.List.{length-map}
use Rattle.core_model.specs.Core.{Event}
use Rattle.core_model.specs.Transcript.{Recorded, event_bytes, events_of, most_bytes, most_entries, transcript_bytes}
use Rattle.record_laws.specs.Bounds.{entry_bytes, past_bytes}

-- entries count what their events count, beside what was counted before
counted_so : (entries : List Recorded) (n : ℕ)
    → fold (λ a event. a + entry_bytes event) n (events_of entries) ≡ fold (λ a entry. a + (64 + event_bytes entry.1)) n entries
counted_so [] n = refl
counted_so (entry ∷ entries) n = counted_so entries (n + entry_bytes entry.1)

events_bytes : (entries : List Recorded) → past_bytes (events_of entries) ≡ transcript_bytes entries
events_bytes entries = counted_so entries 0

pub events_few : {X : Type 0} (f : X → Event) (entries : List Recorded) (told events : List X) → events ≡ told
    → map f told ≡ events_of entries → length entries ≤ most_entries → length events ≤ most_entries
events_few f entries told events same are few =
    subst (λ n. n ≤ most_entries)
    (sym (ap length same ∙ (sym (length-map told f) ∙ (ap length are ∙ length-map entries (λ entry. entry.1))))) few

pub events_small : {X : Type 0} (f : X → Event) (entries : List Recorded) (told events : List X) → events ≡ told
    → map f told ≡ events_of entries → transcript_bytes entries ≤ most_bytes → past_bytes (map f events) ≤ most_bytes
events_small f entries told events same are small =
    subst (λ n. n ≤ most_bytes) (sym (ap (λ xs. past_bytes (map f xs)) same ∙ (ap past_bytes are ∙ events_bytes entries))) small
