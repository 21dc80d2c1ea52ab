-- Where a call has no place for an event of a message's size, the transcript is nearly full, and stays so.
use Rattle.std.proofs.Common.{◌≡◌, ◌≤◌, ⊎_elim, inl, inr, Bool, true, false, List, length, refl}
use Rattle.std.specs.Prelude.{Result, Ok, Err, ◌||◌, nat_le, nat_lt}
use Rattle.std.proofs.lemmas.Bool.{leb-true, ltb-true, le-leb, lt-ltb, or_cases, or_left, or_right}
use Rattle.hmr_types.specs.declared.limits.TheConstants.{MESSAGE_BYTES}
use Rattle.update_msgs.specs.declared.desk.HubStop.{HubStop}
use Rattle.update_msgs.specs.declared.desk.HubStop.TheVariants.{TranscriptFull, NoMemory}
use Rattle.core_model.specs.Core.{Event}
use Rattle.core_model.specs.Transcript.{Recorded, event_bytes, most_entries, transcript_bytes}
use Rattle.events_and_replies.specs.declared.event.Reply.{Reply}
use Rattle.transform_pool.specs.Boards.{full_after}
use Rattle.hmr_hub.specs.declared.pass.Pass.{Pass}
use Rattle.hmr_hub.specs.Calls.{Called, SameKnower}
use Rattle.hmr_hub.specs.Passes.{number_of, seen_of}
use Rattle.transcripts.specs.Transcripts.{recorded}
use Rattle.hmr_hub.specs.Fullness.{IsNearlyFull, nearly_most_bytes}
use Rattle.hmr_hub.proofs.Fullness.{nearly_full_called, nearly_full_moved}
use Rattle.hmr_hub.proofs.Moves.{moved_called}
use Rattle.session_desks.specs.Fullness.{is_nearly_full}

pub nearly_full : (entries : List Recorded) → is_nearly_full entries ≡ true → IsNearlyFull entries
nearly_full entries e =
    ⊎_elim
    (λ many. inl (leb-true most_entries (length entries) many))
    (λ large. inr (ltb-true nearly_most_bytes (transcript_bytes entries) large))
    (or_cases (nat_le most_entries (length entries)) (nat_lt nearly_most_bytes (transcript_bytes entries)) e)

tests_full : (entries : List Recorded) → IsNearlyFull entries → is_nearly_full entries ≡ true
tests_full entries (inl many) = or_left (nat_le most_entries (length entries)) (nat_lt nearly_most_bytes (transcript_bytes entries)) (le-leb most_entries (length entries) many)
tests_full entries (inr large) = or_right (nat_le most_entries (length entries)) (nat_lt nearly_most_bytes (transcript_bytes entries)) (lt-ltb nearly_most_bytes (transcript_bytes entries) large)

module _ (event : Event) (short : event_bytes event ≤ MESSAGE_BYTES) (p q : Pass) (same : SameKnower p q) where
  -- where it was so before, it is so after a call
  full_still : (reply : Result Reply HubStop) → Called event reply p q → is_nearly_full (seen_of p) ≡ true → is_nearly_full (seen_of q) ≡ true
  full_still reply called e =
      tests_full (seen_of q) (nearly_full_moved p q (recorded (number_of p) event reply) (moved_called p q event reply same called) (nearly_full (seen_of p) e))

  pub full_called : (reply : Result Reply HubStop) → Called event reply p q → (full : Bool) → (full ≡ true → is_nearly_full (seen_of p) ≡ true)
      → full_after full reply ≡ true → is_nearly_full (seen_of q) ≡ true
  full_called (Ok reply) called full near e = full_still (Ok reply) called (near e)
  full_called (Err TranscriptFull) called full near e = tests_full (seen_of q) (nearly_full_called p q event called short)
  full_called (Err NoMemory) called full near e = full_still (Err NoMemory) called (near e)

-- a desk or a board is full after a call where it was full, or is now
pub full_or : (full : Bool) (reply : Result Reply HubStop) → (full || full_after false reply) ≡ full_after full reply
full_or true (Ok reply) = refl
full_or false (Ok reply) = refl
full_or true (Err TranscriptFull) = refl
full_or false (Err TranscriptFull) = refl
full_or true (Err NoMemory) = refl
full_or false (Err NoMemory) = refl
