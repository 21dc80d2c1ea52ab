-- The numbers of edits: those that are given are versions, and a transcript is too short for all to be given.
use Rattle.std.proofs.Common.{◌≡◌, ◌≤◌, ◌<◌, ◌+◌, ℕ, Bool, true, false, List, [], ◌∷◌, length, refl, ap, sym, ◌∙◌, subst, arith}
use Rattle.std.specs.Prelude.{◌&&◌, ◌-◌, not, nat_le, nat_lt, Option, Some, None, is_some, if◌then◌else◌}
use Rattle.std.proofs.lemmas.Bool.{le-leb, leb-true}
use Rattle.std.proofs.lemmas.List.{length-map, length-reverse}
use Rattle.hmr_types.specs.declared.limits.TheConstants.{LARGEST_NUMBER, SOURCE_BYTES, SOURCE_NAMES, TEXT_BYTES}
use Rattle.hmr_types.specs.declared.words.EditRefusal.TheVariants.{NumbersSpent, SourceTotal, TextTooLong, TooManyNames}
use Rattle.hmr_types.specs.Table.{is_version}
use Rattle.core_model.specs.LookBack.{counted_edits, counts}
use Rattle.core_model.specs.Sources.{Change, EditAnswer, Source, Sources, Text, answer_for, edit, edit_answer, edit_refused, has_text, job, numbered, removed, result, same, sources_after, text_length, total_of}
use Rattle.core_model.specs.Core.{Event, change, changes_of, connect, disconnect, request}
use Rattle.core_model.specs.Transcript.{Recorded, events_of}
use Rattle.core_model.proofs.LookingBack.{counted_is}
use Rattle.core_model.proofs.Naming.{and_both}
use Rattle.events_and_replies.specs.Said.{edit_said}
use Rattle.transcripts.specs.Transcripts.{past_of}
use Rattle.hub_editor.specs.Edits.{IsEditReply}
use Rattle.hub_editor.specs.Results.{sources_in}

-- it is an answer as it comes while numbers are left
abbrev IsLeft : EditAnswer → Type 0
IsLeft x = IsEditReply (edit_said x)

left_if : (b : Bool) (x y : EditAnswer) → IsLeft x → IsLeft y → IsLeft (if b then x else y)
left_if true x y p q = p
left_if false x y p q = q

version_next : (counted : ℕ) → counted < LARGEST_NUMBER → is_version (counted + 1) ≡ true
version_next counted few = and_both (nat_le 1 (counted + 1)) (nat_le (counted + 1) LARGEST_NUMBER) (le-leb 1 (counted + 1) (omega arith)) (le-leb (counted + 1) LARGEST_NUMBER (omega (arith, few)))

not_spent : (counted : ℕ) (b : Bool) → nat_le LARGEST_NUMBER counted ≡ b → counted < LARGEST_NUMBER → b ≡ false
not_spent counted true e few = absurd (omega (arith, leb-true LARGEST_NUMBER counted e, few))
not_spent counted false e few = refl

numbered_is : (answer : ℕ → EditAnswer) (counted : ℕ) → counted < LARGEST_NUMBER → numbered answer counted ≡ answer (counted + 1)
numbered_is answer counted few = ap (λ b. if b then edit_refused NumbersSpent else answer (counted + 1)) (not_spent counted (nat_le LARGEST_NUMBER counted) refl few)

job_left : (counted : ℕ) → counted < LARGEST_NUMBER → IsLeft (numbered job counted)
job_left counted few = subst (λ x. IsLeft x) (sym (numbered_is job counted few)) (version_next counted few)

removed_left : (counted : ℕ) → counted < LARGEST_NUMBER → IsLeft (numbered removed counted)
removed_left counted few = subst (λ x. IsLeft x) (sym (numbered_is removed counted few)) tt

answer_left : (old : Option Source) (s : Sources) (t : Option Text) → s.counted < LARGEST_NUMBER → IsLeft (answer_for old s t)
answer_left old s None few = left_if (is_some old) (numbered removed s.counted) same (removed_left s.counted few) tt
answer_left old s (Some t) few =
    left_if (nat_lt TEXT_BYTES (length t)) (edit_refused TextTooLong) _ (λ e. cc)
    (left_if (has_text old t) same _ tt
    (left_if (not (is_some old) && nat_le SOURCE_NAMES (length s.current)) (edit_refused TooManyNames) _ (λ e. cc)
    (left_if (nat_lt SOURCE_BYTES ((total_of s - text_length old) + length t)) (edit_refused SourceTotal) _ (λ e. cc)
    (job_left s.counted few))))

counts_few : (x : EditAnswer) → counts x ≤ 1
counts_few (job v) = omega arith
counts_few same = omega arith
counts_few (removed v) = omega arith
counts_few (edit_refused w) = omega arith

counted_few : (past : List Change) → counted_edits past ≤ length past
counted_few [] = omega arith
counted_few (edit n t ∷ past) = omega (arith, counted_few past, counts_few (edit_answer (sources_after past) n t))
counted_few (result n t o v ∷ past) = omega (arith, counted_few past)

changes_few : (events : List Event) → length (changes_of events) ≤ length events
changes_few [] = omega arith
changes_few (change ch ∷ events) = omega (arith, changes_few events)
changes_few (connect names ∷ events) = omega (arith, changes_few events)
changes_few (request i r ∷ events) = omega (arith, changes_few events)
changes_few (disconnect i ∷ events) = omega (arith, changes_few events)

-- no more edits are counted than there are entries
pub counted_entries : (entries : List Recorded) → (sources_in entries).counted ≤ length entries
counted_entries entries =
    let long : length (past_of entries) ≡ length entries = length-reverse (events_of entries) ∙ length-map entries (λ (entry : Recorded). entry.1) in
    omega (arith, counted_is (changes_of (past_of entries)), counted_few (changes_of (past_of entries)), changes_few (past_of entries), long)

-- so the reply to an edit is one that has its number
pub reply_left : (entries : List Recorded) (n : List ℕ) (t : Option Text) → length entries < LARGEST_NUMBER → IsEditReply (edit_said (edit_answer (sources_in entries) n t))
reply_left entries n t few = answer_left _ (sources_in entries) t (omega (arith, counted_entries entries, few))
