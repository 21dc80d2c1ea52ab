-- Transcripts that have no place for an event.
use Rattle.std.proofs.Common.{◌≡◌, ◌≤◌, ◌+◌, inl, inr, ⊎_elim, true, List, ◌++◌, length, refl, sym, ◌∙◌, subst, arith}
use Rattle.std.specs.Prelude.{nat_le, nat_lt, Err}
use Rattle.std.proofs.lemmas.Bool.{leb-true, ltb-true, or_cases}
use Rattle.std.proofs.lemmas.List.{append-nil, length-append}
use Rattle.std.proofs.lemmas.List.Sums.{sum_by-append}
use Rattle.hmr_types.specs.declared.limits.TheConstants.{MESSAGE_BYTES}
use Rattle.update_msgs.specs.declared.desk.HubStop.TheVariants.{TranscriptFull}
use Rattle.core_model.specs.Core.{Event}
use Rattle.core_model.specs.Transcript.{Recorded, event_bytes, most_bytes, most_entries, transcript_bytes}
use Rattle.hmr_hub.specs.declared.pass.Pass.{Pass}
use Rattle.hmr_hub.specs.Calls.{Called}
use Rattle.hmr_hub.specs.Passes.{seen_of}
use Rattle.transcripts.specs.Transcripts.{entry_bytes, is_full}
use Rattle.hmr_hub.specs.Moves.{Moved}
use Rattle.hmr_hub.specs.Fullness.{IsNearlyFull}

pub nearly_full : (entries : List Recorded) (event : Event) → is_full entries event ≡ true → event_bytes event ≤ MESSAGE_BYTES → IsNearlyFull entries
nearly_full entries event full short =
    ⊎_elim
    (λ t. inl (leb-true most_entries (length entries) t))
    (λ t. inr (let over = ltb-true most_bytes (transcript_bytes entries + entry_bytes event) t in omega (arith, over, short)))
    (or_cases (nat_le most_entries (length entries)) (nat_lt most_bytes (transcript_bytes entries + entry_bytes event)) full)

pub nearly_full_longer : (entries more : List Recorded) → IsNearlyFull entries → IsNearlyFull (entries ++ more)
nearly_full_longer entries more (inl few) = inl (omega (arith, length-append entries more, few))
nearly_full_longer entries more (inr small) = inr (omega (arith, sum_by-append (λ (entry : Recorded). 64 + event_bytes entry.1) entries more, small))

pub nearly_full_moved : (p q : Pass) (mine : List Recorded) → Moved p q mine → IsNearlyFull (seen_of p) → IsNearlyFull (seen_of q)
nearly_full_moved p q mine m full = subst (λ entries. IsNearlyFull entries) (sym m.longer) (nearly_full_longer (seen_of p) m.more full)

-- a call that the transcript had no place for
pub nearly_full_called : (p q : Pass) (event : Event) → Called event (Err TranscriptFull) p q → event_bytes event ≤ MESSAGE_BYTES → IsNearlyFull (seen_of q)
nearly_full_called p q event c short =
    let here : IsNearlyFull c.before = nearly_full c.before event (c.full.0 refl) short in
    subst (λ entries. IsNearlyFull entries) (sym (c.seen ∙ append-nil c.before)) here
