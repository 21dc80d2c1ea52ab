-- Histories of questions, and the transcripts of what was told in them.
use Rattle.std.proofs.Common.{◌≡◌, ℕ, Bool, true, false, List, [], ◌∷◌, ◌++◌, refl, ap, sym, ◌∙◌, reverse}
use Rattle.std.specs.Prelude.{cond, Result, Ok, Err}
use Rattle.std.proofs.lemmas.List.{append-nil, map-append, reverse-append}
use Rattle.std.proofs.lemmas.Grind.{flat_map-append}
use Rattle.update_msgs.specs.declared.desk.HubStop.{HubStop}
use Rattle.events_and_replies.specs.declared.event.Reply.{Reply}
use Rattle.core_model.specs.Core.{Event}
use Rattle.core_model.specs.Transcript.{Recorded, events_of}
use Rattle.turn_lock.specs.Histories.{Past, calls, grown, has}
use Rattle.turn_lock.proofs.Histories.{calls_append}
use Rattle.hmr_hub.specs.Outcomes.{is_recorded}
use Rattle.hmr_hub.specs.Questions.{Asked, tell, outstanding, report, events, entry_in, transcript_of, history_of}
use Rattle.transcripts.specs.Transcripts.{past_of, recorded}

-- the events, newest first, with one entry more
pub past_more : (entries : List Recorded) (by : ℕ) (event : Event) → past_of (entries ++ (by, event) ∷ []) ≡ event ∷ past_of entries
past_more entries by event =
    ap (λ told. reverse told) (map-append (λ (entry : Recorded). entry.1) entries ((by, event) ∷ []))
    ∙ reverse-append (events_of entries) (event ∷ [])

pub transcript_append : (xs ys : List (ℕ × Asked)) → transcript_of (xs ++ ys) ≡ transcript_of xs ++ transcript_of ys
transcript_append xs ys = flat_map-append (λ (e : ℕ × Asked). entry_in e.0 e.1) xs ys

pub transcript_of_history : (entries : List Recorded) → transcript_of (history_of entries) ≡ entries
transcript_of_history [] = refl
transcript_of_history (entry ∷ entries) = ap (λ es. entry ∷ es) (transcript_of_history entries)

-- a history with an event more, where it was answered
pub history_more : (entries : List Recorded) (by : ℕ) (event : Event) (told : Result Reply HubStop) → history_of (entries ++ recorded by event told) ≡ grown (history_of entries) by (tell event) (is_recorded told)
history_more entries by event (Ok reply) = map-append (λ (e : Recorded). (e.0, tell e.1)) entries ((by, event) ∷ [])
history_more entries by event (Err stop) = ap history_of (append-nil entries)

-- the transcript of a history with an event more, where it was answered
pub transcript_more : (history : List (ℕ × Asked)) (by : ℕ) (event : Event) (told : Result Reply HubStop) (kept : Bool) → kept ≡ is_recorded told
    → transcript_of (grown history by (tell event) kept) ≡ transcript_of history ++ recorded by event told
transcript_more history by event (Ok reply) kept e = ap (λ b. transcript_of (grown history by (tell event) b)) e ∙ transcript_append history ((by, tell event) ∷ [])
transcript_more history by event (Err stop) kept e = ap (λ b. transcript_of (grown history by (tell event) b)) e ∙ sym (append-nil (transcript_of history))

-- what isn't recorded leaves the history
pub grown_not : {X : Type 0} (history : List (ℕ × X)) (by : ℕ) (asked : X) (kept : Bool) → kept ≡ false → grown history by asked kept ≡ history
grown_not history by asked kept e = ap (λ b. grown history by asked b) e

known_entry : (ks : List ℕ) (by : ℕ) (asked : Asked) (b : Bool) (xs : List Recorded) (ys : List (ℕ × Asked)) → has by ks ≡ b → xs ≡ transcript_of ys
    → calls ks (entry_in by asked) ++ xs ≡ transcript_of (cond b ((by, asked) ∷ ys) ys)
known_entry ks by (tell event) true xs ys h e = rw h (ap (λ zs. (by, event) ∷ zs) e)
known_entry ks by (tell event) false xs ys h e = rw h e
known_entry ks by (outstanding n) true xs ys h e = e
known_entry ks by (outstanding n) false xs ys h e = e
known_entry ks by report true xs ys h e = e
known_entry ks by report false xs ys h e = e
known_entry ks by events true xs ys h e = e
known_entry ks by events false xs ys h e = e

-- the entries under known numbers, of the history or of its transcript
pub calls_transcript : (ks : List ℕ) (history : List (ℕ × Asked)) → calls ks (transcript_of history) ≡ transcript_of (calls ks history)
calls_transcript ks [] = refl
calls_transcript ks (e ∷ es) = calls_append ks (entry_in e.0 e.1) (transcript_of es) ∙ known_entry ks e.0 e.1 (has e.0 ks) (calls ks (transcript_of es)) (calls ks es) refl (calls_transcript ks es)

-- what was seen begins the transcript as it begins the history
pub past_transcript : (history seen : List (ℕ × Asked)) (ks : List ℕ) → Past history seen ks → Past (transcript_of history) (transcript_of seen) ks
past_transcript history seen ks p = record {
  rest = transcript_of p.rest;
  whole = ap transcript_of p.whole ∙ transcript_append seen p.rest;
  quiet = calls_transcript ks p.rest ∙ ap transcript_of p.quiet;
}
