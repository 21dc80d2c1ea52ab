-- The record of events that a core is told is sound.
use Rattle.std.proofs.Common.{ℕ, ◌+◌, ◌≤◌, List, [], ◌∷◌, ◌++◌, Bool, true, false, length, ◌≡◌, refl, sym, ap, subst, ◌∙◌, arith, Option, Some, None}
use Rattle.std.specs.Prelude.{All}
use Rattle.std.specs.List.{AllByRecursion}
use Rattle.std.proofs.lemmas.List.Elements.{recursion_from_All}
use Rattle.std.proofs.lemmas.List.Sums.{sum_by-cons}
use Rattle.module_semantics.specs.Analysis.{transformed}
use Rattle.module_semantics.specs.ModuleText.{parsing}
use Rattle.core_model.specs.Core.{Core, Event, change, connect, request, disconnect, core_after}
use Rattle.core_model.specs.Names.{Name}
use Rattle.core_model.specs.Requests.{ask, fetch, applied_as, aborted, invalidate}
use Rattle.core_model.specs.Roots.{AreRoots}
use Rattle.core_model.specs.Sources.{edit, result}
use Rattle.core_model.specs.Transcript.{IsTrueEvent, most_bytes, most_entries}
use Rattle.server_core.specs.Reading.{is_resting, page_of}
use Rattle.record_text.specs.Fit.{HasText}
use Rattle.record_text.specs.Texts.{record_text}
use Rattle.record_text.specs.declared.record.RecordLine.{RecordLine}
use Rattle.record_text.proofs.ReadBack.{text_is_read}
use Rattle.record_laws.specs.Answers.{answer_text, reply_after, reply_told}
use Rattle.record_laws.specs.Bounds.{entry_bytes, past_bytes}
use Rattle.record_laws.specs.Course.{verdict_of}
use Rattle.record_laws.specs.Events.{event_in}
use Rattle.record_laws.specs.Sound.{AreTrue, IsSound, past_behind, past_in, rests_behind}
use Rattle.record_laws.specs.Written.{client_in, event_told, is_done, lines_behind, lines_told, record_told, rest_line, rest_lines}
use Rattle.record_laws.specs.declared.verdict.Verdict.TheVariants.{Yes}
use Rattle.record_laws.proofs.Judging.{sound_is_yes}
use Rattle.record_laws.proofs.Simulating.{past_more, true_more}

-- the outcome of a result is that of transforming its text
abbrev pub IsTrue : Event → Type 0
IsTrue event = IsTrueEvent (transformed parsing) event

-- an event whose result is true is told whole
pub told_whole : (event : Event) → IsTrue event → event_in (event_told event) ≡ event
told_whole (change (edit n (Some t))) w = refl
told_whole (change (edit n None)) w = refl
told_whole (change (result n t o v)) w = ap (λ x. change (result n t x v)) (sym w)
told_whole (connect names) w = refl
told_whole (request i ask) w = refl
told_whole (request i (fetch n)) w = refl
told_whole (request i (applied_as table)) w = refl
told_whole (request i aborted) w = refl
told_whole (request i (invalidate n v)) w = refl
told_whole (disconnect i) w = refl

-- ---- clients at rest

line_true : (roots : List Name) (past : List Event) (i : ℕ) (b : Bool) (page : Option (List (Name × ℕ))) → is_resting (core_after roots past) i ≡ b → page_of (core_after roots past) i ≡ page → AreTrue roots past (rest_line b page i)
line_true roots past i true (Some table) e f = (record { rests = e; page = f }, tt)
line_true roots past i true None e f = tt
line_true roots past i false page e f = tt

lines_true : (roots : List Name) (past : List Event) (client : Option ℕ) → AreTrue roots past (rest_lines (core_after roots past) client)
lines_true roots past None = tt
lines_true roots past (Some i) = line_true roots past i (is_resting (core_after roots past) i) (page_of (core_after roots past) i) refl refl

behind_true : (roots : List Name) (past : List Event) (b : Bool) (client : Option ℕ) → AreTrue roots past (lines_behind b (core_after roots past) client)
behind_true roots past true client = lines_true roots past client
behind_true roots past false client = tt

line_past : (past : List Event) (i : ℕ) (b : Bool) (page : Option (List (Name × ℕ))) → past_behind past (rest_line b page i) ≡ past
line_past past i true (Some table) = refl
line_past past i true None = refl
line_past past i false page = refl

lines_past : (past : List Event) (core : Core) (client : Option ℕ) → past_behind past (rest_lines core client) ≡ past
lines_past past core None = refl
lines_past past core (Some i) = line_past past i (is_resting core i) (page_of core i)

behind_past : (past : List Event) (b : Bool) (core : Core) (client : Option ℕ) → past_behind past (lines_behind b core client) ≡ past
behind_past past true core client = lines_past past core client
behind_past past false core client = refl

-- ---- entries

abbrev behind : List Name → List Event → Event → List RecordLine
behind roots past event = lines_behind (is_done (reply_told (reply_after roots past event))) (core_after roots (event ∷ past)) (client_in event)

told_true : (roots : List Name) (past events : List Event) → AllByRecursion IsTrue events → AreTrue roots past (lines_told roots past events)
told_true roots past [] w = tt
told_true roots past (event ∷ more) w =
    let whole = told_whole event w.0 in
    let rest = lines_told roots (event ∷ past) more in
    let here = behind_true roots (event ∷ past) (is_done (reply_told (reply_after roots past event))) (client_in event) in
    let after = subst (λ p. AreTrue roots p rest) (sym (behind_past (event ∷ past) (is_done (reply_told (reply_after roots past event))) (core_after roots (event ∷ past)) (client_in event))) (told_true roots (event ∷ past) more w.1) in
    (ap (answer_text roots past) (sym whole), subst (λ x. AreTrue roots (x ∷ past) (behind roots past event ++ rest)) (sym whole) (true_more roots (event ∷ past) (behind roots past event) rest here after))

-- the events behind others, the newest first
onto : List Event → List Event → List Event
onto past [] = past
onto past (event ∷ more) = onto (event ∷ past) more

told_past : (roots : List Name) (past events : List Event) → AllByRecursion IsTrue events → past_behind past (lines_told roots past events) ≡ onto past events
unfolding onto
told_past roots past [] w = refl
told_past roots past (event ∷ more) w =
    let rest = lines_told roots (event ∷ past) more in
    ap (λ x. past_behind (x ∷ past) (behind roots past event ++ rest)) (told_whole event w.0)
    ∙ (past_more (event ∷ past) (behind roots past event) rest
    ∙ (ap (λ p. past_behind p rest) (behind_past (event ∷ past) (is_done (reply_told (reply_after roots past event))) (core_after roots (event ∷ past)) (client_in event))
    ∙ told_past roots (event ∷ past) more w.1))

onto_length : (past events : List Event) → length (onto past events) ≡ length past + length events
unfolding onto
onto_length past [] = omega arith
onto_length past (event ∷ more) = let e = onto_length (event ∷ past) more in omega arith

onto_bytes : (past events : List Event) → past_bytes (onto past events) ≡ past_bytes past + past_bytes events
unfolding onto
onto_bytes past [] = omega arith
onto_bytes past (event ∷ more) =
    let e = onto_bytes (event ∷ past) more in
    let a = sum_by-cons entry_bytes event past in
    let b = sum_by-cons entry_bytes event more in
    omega arith

pub told_length : (roots : List Name) (events : List Event) → AllByRecursion IsTrue events → length (past_in (lines_told roots [] events)) ≡ length events
told_length roots events w =
    let past = ap length (told_past roots [] events w) in
    let many = onto_length [] events in
    omega arith

pub record_is_sound : (roots : List Name) (events : List Event) → AreRoots roots → length events ≤ most_entries → past_bytes events ≤ most_bytes → All IsTrue events → IsSound (record_told roots events)
record_is_sound roots events good few small w =
    let r = recursion_from_All IsTrue events w in
    let many = told_length roots events r in
    let heavy = ap past_bytes (told_past roots [] events r) ∙ onto_bytes [] events in
    record { roots = good; few = omega arith; small = omega arith; told = told_true roots [] events r }

pub record_is_yes : (roots : List Name) (events : List Event) → AreRoots roots → length events ≤ most_entries → past_bytes events ≤ most_bytes → All IsTrue events → HasText (record_told roots events)
    → verdict_of (record_text (record_told roots events)) ≡ Yes (length events) (rests_behind 0 (lines_told roots [] events))
record_is_yes roots events good few small w has =
    sound_is_yes (record_text (record_told roots events)) (length events) (rests_behind 0 (lines_told roots [] events)) (record {
      meant = record_told roots events;
      read = text_is_read (record_told roots events) has;
      sound = record_is_sound roots events good few small w;
      steps_are = sym (told_length roots events (recursion_from_All IsTrue events w));
      rests_are = refl;
    })
