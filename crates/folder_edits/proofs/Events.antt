-- The events of the transcript that a pass has seen, among those that were asked for when it had gone on.
use Rattle.std.proofs.Common.{◌≡◌, ◌≤◌, ◌+◌, ℕ, List, [], ◌∷◌, ◌++◌, length, map, refl, ap, sym, ◌∙◌, subst, append_assoc}
use Rattle.std.specs.Prelude.{take}
use Rattle.std.specs.Prelude.{OnOk, Result, Ok, Err, fold}
use Rattle.std.proofs.lemmas.List.{length-map, map-append, take-map}
use Rattle.std.proofs.Math.Seq.{take-append_seam}
use Rattle.module_semantics.specs.Analysis.{transformed}
use Rattle.module_semantics.specs.ModuleText.{parsing}
use Rattle.core_model.specs.Core.{Event}
use Rattle.core_model.specs.Names.{Name}
use Rattle.core_model.specs.Transcript.{IsLegal, Recorded, event_bytes, events_of, most_bytes, most_entries, transcript_bytes}
use Rattle.hmr_hub.specs.declared.pass.Pass.{Pass}
use Rattle.hmr_hub.specs.Passes.{HasTranscript, roots_of, seen_of}
use Rattle.record_text.specs.Texts.{record_text}
use Rattle.record_laws.specs.Bounds.{entry_bytes, past_bytes}
use Rattle.record_laws.specs.Course.{verdict_of}
use Rattle.record_laws.specs.Sound.{rests_behind}
use Rattle.record_laws.specs.Written.{lines_told, record_told}
use Rattle.record_laws.specs.declared.verdict.Verdict.TheVariants.{Yes}
use Rattle.folder_edits.specs.Serving.{IsConfirmed}

-- as many events as there are entries are those of the entries, where more came behind
pub first_events : {X : Type 0} (f : X → Event) (told : List X) (before rest after : List Recorded)
    → map f told ≡ events_of after → after ≡ before ++ rest → map f (take (length before) told) ≡ events_of before
first_events f told before rest after are longer =
    let split : events_of after ≡ events_of before ++ events_of rest =
    ap events_of longer ∙ map-append (λ entry. entry.1) before rest in
    let count : length (events_of before) ≡ length before = length-map before (λ entry. entry.1) in
    sym (take-map f (length before) told)
    ∙ (ap (take (length before)) (are ∙ split)
    ∙ (ap (λ n. take n (events_of before ++ events_of rest)) (sym count)
    ∙ take-append_seam (events_of before) (events_of rest)))

-- entries count what their events count, beside what was counted before
counted_so : (entries : List Recorded) (n : ℕ)
    → fold (λ a event. a + entry_bytes event) n (events_of entries) ≡ fold (λ a entry. a + (64 + event_bytes entry.1)) n entries
counted_so [] n = refl
counted_so (entry ∷ entries) n = counted_so entries (n + entry_bytes entry.1)

events_bytes : (entries : List Recorded) → past_bytes (events_of entries) ≡ transcript_bytes entries
events_bytes entries = counted_so entries 0

-- events that are those of a transcript within its bounds are within theirs
pub events_few : (entries : List Recorded) (events : List Event) → events ≡ events_of entries
    → length entries ≤ most_entries → length events ≤ most_entries
events_few entries events are few =
    subst (λ n. n ≤ most_entries) (sym (ap length are ∙ length-map entries (λ entry. entry.1))) few

pub events_small : (entries : List Recorded) (events : List Event) → events ≡ events_of entries
    → transcript_bytes entries ≤ most_bytes → past_bytes events ≤ most_bytes
events_small entries events are small =
    subst (λ n. n ≤ most_bytes) (sym (ap past_bytes are ∙ events_bytes entries)) small

-- a text behind its head, and both behind what stood there
pub put_behind : {X E : Type 0} (r : Result X E) (text mid out head body whole : List ℕ) → mid ≡ text ++ head
    → OnOk r (out ≡ mid ++ body) → body ≡ whole → OnOk r (out ≡ text ++ (head ++ whole))
put_behind (Ok x) text mid out head body whole first wrote is =
    wrote ∙ (ap (λ t. t ++ body) first ∙ (append_assoc text head body ∙ ap (λ t. text ++ (head ++ t)) is))
put_behind (Err e) text mid out head body whole first wrote is = wrote

-- the record of what a pass has seen is confirmed, where it is so on its roots
pub confirmed_of : {X E : Type 0} (r : Result X E) (roots : List Name) (p : Pass) → HasTranscript p → roots_of p ≡ roots
    → (IsLegal (transformed parsing) roots (seen_of p)
    → verdict_of (record_text (record_told roots (events_of (seen_of p)))) ≡ Yes (length (seen_of p)) (rests_behind 0 (lines_told roots [] (events_of (seen_of p)))))
    → OnOk r (IsConfirmed p)
confirmed_of (Ok x) roots p transcript same h =
    let yes = h (subst (λ rs. IsLegal (transformed parsing) rs (seen_of p)) same transcript.legal) in
    subst (λ rs. verdict_of (record_text (record_told rs (events_of (seen_of p)))) ≡ Yes (length (seen_of p)) (rests_behind 0 (lines_told rs [] (events_of (seen_of p))))) (sym same) yes
confirmed_of (Err e) roots p transcript same h = tt
