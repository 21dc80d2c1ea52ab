-- What a transcript has of each name, when it goes on.
use Rattle.std.proofs.Common.{◌≡◌, ℕ, Bool, true, false, not, ◌||◌, ◌==◌, List, [], ◌∷◌, ◌++◌, refl, ap, sym, ◌∙◌, append_assoc}
use Rattle.std.specs.Prelude.{All, Option, Some, None, if◌then◌else◌, Ok, Err}
use Rattle.std.proofs.lemmas.Bool.{false≢true}
use Rattle.std.proofs.lemmas.List.{append-nil}
use Rattle.std.proofs.lemmas.List.Elements.{All-head, All-tail}
use Rattle.core_model.specs.LookBack.{edited_last, last_edit}
use Rattle.core_model.specs.Names.{Name, same_name}
use Rattle.core_model.specs.Sources.{EditAnswer, Text, edit, edit_answer, edit_refused, job, removed, result, same, text_or_none}
use Rattle.core_model.specs.Core.{Event, change, changes_of, connect, disconnect, request}
use Rattle.core_model.specs.Transcript.{Recorded, reply_after}
use Rattle.core_model.proofs.Replaying.{sources_are}
use Rattle.version_map.specs.declared.outcome.EditOutcome.TheVariants.{Job, Same, Removed}
use Rattle.events_and_replies.specs.declared.event.Reply.{Reply}
use Rattle.events_and_replies.specs.declared.event.Reply.TheVariants as replies
use Rattle.events_and_replies.specs.Said.{edit_said, said}
use Rattle.turn_lock.specs.Histories.{calls}
use Rattle.turn_lock.proofs.Histories.{quiet_head, quiet_tail}
use Rattle.transcripts.specs.Transcripts.{is_edit, may_make, past_of}
use Rattle.hmr_hub.proofs.Histories.{past_more}
use Rattle.hub_editor.specs.Edits.{Answer, Edit, counted_by, edit_entry, edit_event, reply_of}
use Rattle.hub_editor.specs.Results.{last_in, sources_in}

-- what is no edit leaves the last counted edits
quiet_event : (event : Event) (past : List Event) (n : Name) → is_edit event ≡ false → last_edit (changes_of (event ∷ past)) n ≡ last_edit (changes_of past) n
quiet_event (change (edit m t)) past n e = absurd (false≢true (sym e))
quiet_event (change (result m t o v)) past n e = refl
quiet_event (connect names) past n e = refl
quiet_event (request i r) past n e = refl
quiet_event (disconnect i) past n e = refl

pub last_quiet : (entries : List Recorded) (by : ℕ) (event : Event) (n : Name) → is_edit event ≡ false → last_in (entries ++ (by, event) ∷ []) n ≡ last_in entries n
last_quiet entries by event n e = ap (λ past. last_edit (changes_of past) n) (past_more entries by event) ∙ quiet_event event (past_of entries) n e

-- an entry that isn't the editor's is no edit
other_edit : (a b : Bool) → (not a || b) ≡ true → (b || false) ≡ false → a ≡ false
other_edit false b may other = refl
other_edit true true may other = absurd (false≢true (sym other))
other_edit true false may other = absurd (false≢true may)

-- the entry is one that its pass may make
abbrev pub IsMade : Recorded → Type 0
IsMade entry = may_make entry.0 entry.1 ≡ true

-- entries of others leave them
pub last_others : (entries rest : List Recorded) (n : Name) → calls (0 ∷ []) rest ≡ [] → All IsMade rest
    → last_in (entries ++ rest) n ≡ last_in entries n
last_others entries [] n quiet may = ap (λ es. last_in es n) (append-nil entries)
last_others entries (x ∷ rest) n quiet may =
    let none : is_edit x.1 ≡ false = other_edit (is_edit x.1) (x.0 == 0) (All-head IsMade x rest may) (quiet_head (0 ∷ []) x rest quiet) in
    ap (λ es. last_in es n) (sym (append_assoc entries (x ∷ []) rest))
    ∙ (last_others (entries ++ x ∷ []) rest n (quiet_tail (0 ∷ []) x rest quiet) (All-tail IsMade x rest may) ∙ last_quiet entries x.0 x.1 n none)

-- the answer to an edit is that of the sources so far
pub said_edit : (roots : List Name) (before : List Recorded) (e : Edit) → said (reply_after roots before (edit_event e)) ≡ edit_said (edit_answer (sources_in before) e.0 e.1)
said_edit roots before e = ap (λ s. edit_said (edit_answer s e.0 e.1)) (sources_are roots (past_of before))

-- what an answered edit leaves, by the reply
abbrev left_by : Reply → Option Text → Option (ℕ × Text) → Option (ℕ × Text)
left_by (replies.Edited (Job v)) t before = Some (v, text_or_none t)
left_by (replies.Edited Same) t before = before
left_by (replies.Edited (Removed v)) t before = None
left_by (replies.EditRefused refusal) t before = before
left_by (replies.Settled settled) t before = before
left_by (replies.To message) t before = before
left_by (replies.Refused refusal) t before = before
left_by replies.Gone t before = before

left_said : (x : EditAnswer) (t : Option Text) (before : Option (ℕ × Text)) → edited_last x t before ≡ left_by (edit_said x) t before
left_said (job v) t before = refl
left_said same t before = refl
left_said (removed v) t before = refl
left_said (edit_refused w) t before = refl

left_reply : (a : Answer) (t : Option Text) (before : Option (ℕ × Text)) → left_by (reply_of a) t before ≡ counted_by a t before
left_reply (Ok (Job v)) t before = refl
left_reply (Ok Same) t before = refl
left_reply (Ok (Removed v)) t before = refl
left_reply (Err w) t before = refl

left_same : (x : EditAnswer) (a : Answer) (t : Option Text) (before : Option (ℕ × Text)) → edit_said x ≡ reply_of a → edited_last x t before ≡ counted_by a t before
left_same x a t before e = left_said x t before ∙ (ap (λ r. left_by r t before) e ∙ left_reply a t before)

-- an edit is the last of its name where it is counted
pub last_edited : (before : List Recorded) (e : Edit) (a : Answer) (n : Name) → edit_said (edit_answer (sources_in before) e.0 e.1) ≡ reply_of a
    → last_in (before ++ edit_entry e ∷ []) n ≡ (if same_name e.0 n then counted_by a e.1 (last_in before n) else last_in before n)
last_edited before e a n said =
    ap (λ past. last_edit (changes_of past) n) (past_more before 0 (edit_event e))
    ∙ ap (λ last. if same_name e.0 n then last else last_in before n) (left_same (edit_answer (sources_in before) e.0 e.1) a e.1 (last_in before n) said)
