-- A legal transcript with one entry more.
use Rattle.std.proofs.Common.{◌≡◌, ◌+◌, ◌<◌, ◌≤◌, ℕ, Bool, true, false, List, [], ◌∷◌, ◌++◌, length, refl, sym, subst, arith}
use Rattle.std.specs.Prelude.{All, ◌||◌, nat_le, nat_lt}
use Rattle.std.proofs.lemmas.Bool.{leb-false, ltb-false}
use Rattle.std.proofs.lemmas.List.{length-append, map-append}
use Rattle.std.proofs.lemmas.List.Elements.{All-nil, All-push}
use Rattle.std.proofs.lemmas.List.Sums.{sum_by_push}
use Rattle.module_semantics.specs.Analysis.{transformed}
use Rattle.module_semantics.specs.ModuleText.{parsing}
use Rattle.core_model.specs.Names.{Name}
use Rattle.core_model.specs.Roots.{AreRoots}
use Rattle.core_model.specs.Formed.{IsFormed}
use Rattle.core_model.specs.Core.{Event}
use Rattle.core_model.specs.Transcript.{IsTrueEvent, Recorded, event_bytes, events_of, most_bytes, most_entries, transcript_bytes}
use Rattle.transcripts.specs.Transcripts.{IsTranscript, entry_bytes, is_full, may_make}

-- the transcript has a place for the event
pub record HasPlace (entries : List Recorded) (event : Event) : Type 0 where
  pub few : length entries < most_entries
  pub small : transcript_bytes entries + entry_bytes event ≤ most_bytes

both_false : (a b : Bool) → (a || b) ≡ false → (a ≡ false) × (b ≡ false)
both_false true b e = cc
both_false false b e = (refl, e)

pub place_in : (entries : List Recorded) (event : Event) → is_full entries event ≡ false → HasPlace entries event
place_in entries event e =
    let both = both_false (nat_le most_entries (length entries)) (nat_lt most_bytes (transcript_bytes entries + entry_bytes event)) e in
    record {
      few = leb-false most_entries (length entries) both.0;
      small = ltb-false most_bytes (transcript_bytes entries + entry_bytes event) both.1;
    }

-- the bytes with one entry more
pub bytes_more : (entries : List Recorded) (by : ℕ) (event : Event) → transcript_bytes (entries ++ (by, event) ∷ []) ≡ transcript_bytes entries + entry_bytes event
bytes_more entries by event = sum_by_push (λ (entry : Recorded). 64 + event_bytes entry.1) entries (by, event)

all_events : (P : Event → Type 0) (entries : List Recorded) (by : ℕ) (event : Event) → All P (events_of entries) → P event → All P (events_of (entries ++ (by, event) ∷ []))
all_events P entries by event all one =
    subst (λ events. All P events) (sym (map-append (λ (entry : Recorded). entry.1) entries ((by, event) ∷ []))) (All-push P (events_of entries) event all one)

-- no entry yet
pub none_yet : (roots : List Name) → AreRoots roots → IsTranscript roots []
none_yet roots are = record {
  legal = record {
    roots_are = are;
    formed = All-nil IsFormed;
    results = All-nil (IsTrueEvent (transformed parsing));
    few = omega arith;
    small = omega arith;
  };
  edits = All-nil (λ (entry : Recorded). may_make entry.0 entry.1 ≡ true);
}

-- one entry more, for which there is a place
pub one_more : (roots : List Name) (entries : List Recorded) (by : ℕ) (event : Event) → IsTranscript roots entries → HasPlace entries event
    → IsFormed event → IsTrueEvent (transformed parsing) event → may_make by event ≡ true → IsTranscript roots (entries ++ (by, event) ∷ [])
one_more roots entries by event t place formed true_result may = record {
  legal = record {
    roots_are = t.legal.roots_are;
    formed = all_events IsFormed entries by event t.legal.formed formed;
    results = all_events (IsTrueEvent (transformed parsing)) entries by event t.legal.results true_result;
    few = let more = length-append entries ((by, event) ∷ []) in let few = place.few in omega arith;
    small = let more = bytes_more entries by event in let small = place.small in omega arith;
  };
  edits = All-push (λ (entry : Recorded). may_make entry.0 entry.1 ≡ true) entries (by, event) t.edits may;
}

-- the roots of one, and the entries of another
pub same_entries : (roots others : List Name) (mine entries : List Recorded) → IsTranscript roots mine → IsTranscript others entries → IsTranscript roots entries
same_entries roots others mine entries t o = record {
  legal = record {
    roots_are = t.legal.roots_are;
    formed = o.legal.formed;
    results = o.legal.results;
    few = o.legal.few;
    small = o.legal.small;
  };
  edits = o.edits;
}
