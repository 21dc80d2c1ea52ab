-- What the code has behind the lines of an entry.
use Rattle.std.proofs.Common.{ℕ, ◌-◌, ◌<◌, ◌≤◌, List, [], ◌∷◌, Bool, true, false, length, ◌≡◌, refl, sym, ap, arith, Some, None, Result, Ok, Err}
use Rattle.std.specs.Prelude.{not, ◌||◌, nat_lt}
use Rattle.std.proofs.lemmas.Bool.{false≢true, le-leb, leb-true}
use Rattle.std.proofs.lemmas.List.Elements.{All-nil}
use Rattle.hmr_types.specs.declared.limits.TheConstants.{ROOTS}
use Rattle.core_model.specs.Core.{Event}
use Rattle.core_model.specs.Names.{Name}
use Rattle.core_model.specs.Roots.{are_bad, are_distinct}
use Rattle.core_model.specs.Transcript.{event_bytes, most_bytes, most_entries}
use Rattle.record_text.specs.declared.record.RecordEvent.{RecordEvent}
use Rattle.server_core.specs.Kept as core
use Rattle.server_core.specs.Kept.{StandsFor}
use Rattle.record_laws.specs.Bounds.{entry_bytes, has_place}
use Rattle.record_laws.specs.Course.{Opened, Replayed, begun, first_begun, roots_alone, roots_fault, untold, with_event}
use Rattle.record_laws.specs.Events.{event_in}
use Rattle.transcript_check.specs.Following.{IsJudged, IsOpening, opened_as, IsBetween, IsOpen, IsTaken, IsTold, IsWithin}
use Rattle.event_facts.specs.Tellable.{IsTellable}
use Rattle.transcript_check.specs.declared.course.Course.{Course}
use Rattle.transcript_check.specs.declared.course.Course.TheVariants as courses
use Rattle.transcript_check.specs.declared.halt.Halt.{Halt}
use Rattle.transcript_check.specs.declared.halt.Halt.TheVariants as halts
use Rattle.transcript_check.specs.declared.replay.Opened as kept
use Rattle.transcript_check.specs.declared.replay.Replay.{Replay}
use Rattle.record_laws.specs.declared.verdict.Verdict.TheVariants.{Yes}
use Rattle.record_laws.specs.declared.verdict.Why.TheVariants.{Limit, Roots}
use Rattle.record_laws.proofs.Simulating.{FitsIn, is_place, place_is}

-- ---- roots

bad_first : (a c : Bool) → a ≡ true → (a || not c) ≡ true
bad_first a c e = rw e refl

bad_second : (a c : Bool) → c ≡ false → (a || not c) ≡ true
bad_second true c e = refl
bad_second false c e = rw e refl

bad_neither : (a c : Bool) → (a ≡ true → ⊥) → (c ≡ false → ⊥) → (a || not c) ≡ false
bad_neither true c f g = absurd (f refl)
bad_neither false true f g = refl
bad_neither false false f g = absurd (g refl)

pub no_roots_fault : (roots : List Name) → (roots ≡ [] → ⊥) → (ROOTS < length roots → ⊥) → ((length roots ≤ ROOTS) × (are_distinct roots ≡ false) → ⊥) → roots_fault roots ≡ None
no_roots_fault [] f g h = absurd (f refl)
no_roots_fault (root ∷ roots) f g h =
    let few : nat_lt ROOTS (length (root ∷ roots)) ≡ true → ⊥ = λ e. g (leb-true _ _ e) in
    let e : are_bad (root ∷ roots) ≡ false = bad_neither (nat_lt ROOTS (length (root ∷ roots))) (are_distinct (root ∷ roots)) few (λ d. h (not_more, d)) in
    rw e refl
  where
    not_more : length (root ∷ roots) ≤ ROOTS
    not_more = omega (arith, g)

pub many_roots_fault : (roots : List Name) → ROOTS < length roots → roots_fault roots ≡ Some Roots
many_roots_fault [] h = absurd (omega (arith, h))
many_roots_fault (root ∷ roots) h =
    let e : are_bad (root ∷ roots) ≡ true = bad_first (nat_lt ROOTS (length (root ∷ roots))) (are_distinct (root ∷ roots)) (le-leb _ _ h) in
    rw e refl

pub twice_roots_fault : (roots : List Name) → are_distinct roots ≡ false → roots_fault roots ≡ Some Roots
twice_roots_fault [] h = absurd (false≢true (sym h))
twice_roots_fault (root ∷ roots) h =
    let e : are_bad (root ∷ roots) ≡ true = bad_second (nat_lt ROOTS (length (root ∷ roots))) (are_distinct (root ∷ roots)) h in
    rw e refl

pub nothing_told : (kept : core.Kept) → StandsFor [] kept → IsTold [] kept
nothing_told kept h = record { stands = h; tellable = All-nil IsTellable }

-- ---- an event that has a place, or none

pub open_some : (r : Replayed) (x : Replay) (opened : kept.Opened) (left : ℕ) → IsOpen r x → x.steps < most_entries → entry_bytes (event_in opened.event) ≤ x.left → left ≡ x.left - entry_bytes (event_in opened.event)
    → IsTaken (Ok (courses.Within x opened left)) (with_event (opened_as opened) r)
open_some r x opened left h few small is =
    let replay = h.replay in
    let steps = replay.steps in
    let bytes = replay.left in
    let place : has_place r.past (event_in opened.event) ≡ true = is_place r.past (event_in opened.event) (record { few = omega arith; small = omega arith }) in
    rw place (refl, record { replay = replay; few = omega arith; rested = h.rested; left_after = omega arith })

not_placed : (past : List Event) (event : Event) (b : Bool) → has_place past event ≡ b → (FitsIn past event → ⊥) → has_place past event ≡ false
not_placed past event true e no_place = absurd (no_place (place_is past event e))
not_placed past event false e no_place = e

pub open_none : (r : Replayed) (x : Replay) (opened : kept.Opened) → IsOpen r x → ((x.steps < most_entries) × (entry_bytes (event_in opened.event) ≤ x.left) → ⊥)
    → IsTaken (Err (halts.At opened.line Limit)) (with_event (opened_as opened) r)
open_none r x opened h none =
    let place : has_place r.past (event_in opened.event) ≡ false = not_placed r.past (event_in opened.event) (has_place r.past (event_in opened.event)) refl
    (λ f. let replay = h.replay in let steps = replay.steps in let bytes = replay.left in let few = f.few in let small = f.small in none (omega arith, omega arith)) in
    rw place refl

pub open_between : (r : Replayed) (may : Bool) (x : Replay) → IsBetween r may x → IsOpen r x
open_between r may x h = let rested = h.rested in record { replay = h.replay; rested = omega arith }

pub open_within : (r : Replayed) (opened : Opened) (x : Replay) (left : ℕ) → IsWithin r opened x left → IsOpen r x
open_within r opened x left h = record { replay = h.replay; rested = h.rested }

pub event_small : (r : Replayed) (opened : Opened) (x : Replay) (left : ℕ) → IsWithin r opened x left → event_bytes (event_in opened.event) ≤ most_bytes
event_small r opened x left h = let left_after = h.left_after in omega arith

-- ---- the first event

abbrev fresh_replay : core.Kept → Replay
fresh_replay kept = record { core = kept; steps = 0; rests = 0; left = most_bytes }

new_between : (kept : core.Kept) (roots : List Name) → kept.roots ≡ roots → StandsFor [] kept → IsBetween (untold roots) false (fresh_replay kept)
new_between kept roots e stands = record {
  replay = record { roots = e; told = nothing_told kept stands; steps = refl; rests = refl; left = omega arith };
  few = omega arith;
  rested = omega arith;
}

pub first_ok : (line : ℕ) (event : RecordEvent) (kept : core.Kept) (roots : List Name) (result : Result Course Halt) → IsOpening line roots (Ok kept)
    → ((may : Bool) (r : Replayed) → IsBetween r may (fresh_replay kept) → IsTaken result (begun line event r)) → IsTaken result (first_begun (roots_fault roots) line event roots)
first_ok line event kept roots result h begins =
    let fault = h.0 in
    rw fault (begins false (untold roots) (new_between kept roots h.1 h.2))

pub first_err : (line : ℕ) (event : RecordEvent) (roots : List Name) (halt : Halt) → IsOpening line roots (Err halt) → IsTaken (Err halt) (first_begun (roots_fault roots) line event roots)
first_err line event roots (halts.At n why) h = let fault = h.1 in let same = h.0 in rw fault (ap (λ k. (k, why)) (sym same))
first_err line event roots halts.NoMemory h = tt

pub alone_ok : (line : ℕ) (kept : core.Kept) (roots : List Name) → IsOpening line roots (Ok kept) → IsJudged (Ok (Yes 0 0)) (roots_alone (roots_fault roots) line)
alone_ok line kept roots h = let fault = h.0 in rw fault refl

pub alone_err : (line : ℕ) (roots : List Name) (halt : Halt) → IsOpening line roots (Err halt) → IsJudged (Err halt) (roots_alone (roots_fault roots) line)
alone_err line roots (halts.At n why) h = let fault = h.1 in let same = h.0 in rw (fault, same) refl
alone_err line roots halts.NoMemory h = tt
