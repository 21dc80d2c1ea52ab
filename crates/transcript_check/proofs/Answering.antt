-- What the code has behind a piece of a text, a reply and a client at rest.
use Rattle.std.proofs.Common.{ℕ, ◌+◌, ◌≤◌, List, ◌∷◌, Bool, true, false, length, ◌≡◌, refl, sym, ap, subst, ◌∙◌, arith, Result, Ok, Err}
use Rattle.std.specs.Prelude.{not}
use Rattle.std.proofs.lemmas.List.Sums.{sum_by-cons}
use Rattle.hmr_types.specs.ModName.{is_text}
use Rattle.core_model.specs.Core.{Event}
use Rattle.core_model.specs.Names.{Name}
use Rattle.record_text.specs.Reading.{with_piece}
use Rattle.record_text.specs.Told.{reply_text}
use Rattle.record_text.specs.declared.record.RecordEvent.{RecordEvent}
use Rattle.record_text.specs.declared.reply.RecordReply.{RecordReply}
use Rattle.server_core.specs.Kept as core
use Rattle.server_core.specs.Kept.{StandsFor}
use Rattle.record_laws.specs.Answers.{answer_text, reply_after, reply_told}
use Rattle.record_laws.specs.Bounds.{entry_bytes}
use Rattle.record_laws.specs.Course.{Opened, Replayed, answered, rested, with_event, with_more}
use Rattle.record_laws.specs.Events.{event_in}
use Rattle.record_laws.specs.Resting.{rests_with}
use Rattle.record_laws.specs.declared.verdict.Why.TheVariants.{BadLine, Reply, Rest}
use Rattle.transcript_check.specs.Following.{IsBetween, IsSomeBetween, IsTaken, IsTold, IsToldSome, IsWithin, opened_as}
use Rattle.transcript_check.specs.declared.course.Course.{Course}
use Rattle.transcript_check.specs.declared.course.Course.TheVariants as courses
use Rattle.transcript_check.specs.declared.halt.Halt.{Halt}
use Rattle.transcript_check.specs.declared.halt.Halt.TheVariants as halts
use Rattle.transcript_check.specs.declared.replay.Opened as kept
use Rattle.transcript_check.specs.declared.replay.Replay.{Replay}

-- ---- a piece of a text

not_true : (b : Bool) → not b ≡ true → b ≡ false
not_true true e = sym e
not_true false e = refl

not_false : (b : Bool) → not b ≡ false → b ≡ true
not_false true e = refl
not_false false e = sym e

pub no_piece : (line : ℕ) (more : Bool) (piece : List ℕ) (opened : kept.Opened) (r : Replayed) → not opened.text ≡ true → IsTaken (Err (halts.At line BadLine)) (with_more line more piece (opened_as opened) r)
no_piece line more piece opened r e = let none = not_true opened.text e in rw none refl

pub more_placed : (line : ℕ) (more : Bool) (piece : List ℕ) (opened : kept.Opened) (r : Replayed) (event : RecordEvent) (result : Result Course Halt) → not opened.text ≡ false → event ≡ with_piece piece opened.event
    → IsTaken result (with_event (record { line = opened.line; event = event; text = more }) r) → IsTaken result (with_more line more piece (opened_as opened) r)
more_placed line more piece opened r event result e is h =
    let some = not_false opened.text e in
    rw some (subst (λ x. IsTaken result (with_event (record { line = opened.line; event = x; text = more }) r)) is h)

-- ---- a reply

pub told_within : (r : Replayed) (opened : Opened) (x : Replay) (left : ℕ) → IsWithin r opened x left → IsToldSome x.core
told_within r opened x left h = record { past = r.past; told = h.replay.told }

-- the text that the core writes is the definition's
pub answer_is : (r : Replayed) (opened : Opened) (x : Replay) (left : ℕ) (event : Event) (told : RecordReply) (text : List ℕ) → IsWithin r opened x left → event ≡ event_in opened.event
    → ((past : List Event) → IsTold past x.core → told ≡ reply_told (reply_after x.core.roots past event)) → text ≡ reply_text told → text ≡ answer_text r.roots r.past (event_in opened.event)
answer_is r opened x left event told text h e says writes =
    writes
    ∙ (ap reply_text (says r.past h.replay.told)
    ∙ (ap (λ rs. reply_text (reply_told (reply_after rs r.past event))) h.replay.roots
    ∙ ap (λ ev. reply_text (reply_told (reply_after r.roots r.past ev))) e))

pub reply_wrong : (line : ℕ) (reply text : List ℕ) (opened : Opened) (r : Replayed) → text ≡ answer_text r.roots r.past (event_in opened.event) → is_text reply text ≡ false
    → IsTaken (Err (halts.At line Reply)) (answered line reply opened r)
reply_wrong line reply text opened r e f =
    let other : is_text reply (answer_text r.roots r.past (event_in opened.event)) ≡ false = ap (is_text reply) (sym e) ∙ f in
    rw other refl

pub reply_right : (line : ℕ) (reply text : List ℕ) (opened : Opened) (r : Replayed) (x : Replay) (left : ℕ) (new : core.Kept) → text ≡ answer_text r.roots r.past (event_in opened.event) → is_text reply text ≡ true
    → IsWithin r opened x left → new.roots ≡ x.core.roots → IsTold (event_in opened.event ∷ r.past) new
    → IsTaken (Ok (courses.Between (record { core = new; steps = x.steps + 1; rests = x.rests; left = left }) true)) (answered line reply opened r)
reply_right line reply text opened r x left new e f h roots told =
    let same : is_text reply (answer_text r.roots r.past (event_in opened.event)) ≡ true = ap (is_text reply) (sym e) ∙ f in
    let steps = h.replay.steps in
    let few = h.few in
    let rested = h.rested in
    let left_after = h.left_after in
    let sum = sum_by-cons entry_bytes (event_in opened.event) r.past in
    rw same (
      refl,
      record {
        replay = record { roots = roots ∙ h.replay.roots; told = told; steps = omega arith; rests = h.replay.rests; left = omega arith };
        few = omega arith;
        rested = omega arith;
      },
    )

-- ---- a client at rest

pub may_be : (may : Bool) (x : Replay) → IsSomeBetween may x → may ≡ true → IsSomeBetween true x
may_be may x h e = subst (λ b. IsSomeBetween b x) e h

pub no_rest : (line client : ℕ) (table : List (Name × ℕ)) (may : Bool) (r : Replayed) → may ≡ false → IsTaken (Err (halts.At line BadLine)) (rested line client table may r)
no_rest line client table may r e = rw e refl

-- whether it is so is the definition's
rests_are : (r : Replayed) (may : Bool) (x : Replay) (client : ℕ) (table : List (Name × ℕ)) (b : Bool) → IsBetween r may x
    → ((past : List Event) → StandsFor past x.core → b ≡ rests_with x.core.roots past client table) → rests_with r.roots r.past client table ≡ b
rests_are r may x client table b h says =
    ap (λ rs. rests_with rs r.past client table) (sym h.replay.roots) ∙ sym (says r.past h.replay.told.stands)

pub rest_wrong : (line client : ℕ) (table : List (Name × ℕ)) (may : Bool) (r : Replayed) (x : Replay) (b : Bool) → may ≡ true → IsBetween r may x
    → ((past : List Event) → StandsFor past x.core → b ≡ rests_with x.core.roots past client table) → b ≡ false → IsTaken (Err (halts.At line Rest)) (rested line client table may r)
rest_wrong line client table may r x b e h says f =
    let other : rests_with r.roots r.past client table ≡ false = rests_are r may x client table b h says ∙ f in
    rw (e, other) refl

pub rest_right : (line client : ℕ) (table : List (Name × ℕ)) (may : Bool) (r : Replayed) (x counted : Replay) (b : Bool) → may ≡ true → IsBetween r may x
    → ((past : List Event) → StandsFor past x.core → b ≡ rests_with x.core.roots past client table) → b ≡ true → counted ≡ record x { rests = x.rests + 1 }
    → IsTaken (Ok (courses.Between counted false)) (rested line client table may r)
rest_right line client table may r x counted b e h says f is =
    let same : rests_with r.roots r.past client table ≡ true = rests_are r may x client table b h says ∙ f in
    let allowed = subst (λ b. IsBetween r b x) e h in
    let rests = h.replay.rests in
    let rested : r.rests + 1 ≤ length r.past = allowed.rested in
    let one : IsBetween (record r { rests = r.rests + 1 }) false (record x { rests = x.rests + 1 }) = record {
      replay = record { roots = h.replay.roots; told = h.replay.told; steps = h.replay.steps; rests = omega arith; left = h.replay.left };
      few = h.few;
      rested = omega arith;
    } in
    rw (e, same) (refl, subst (λ y. IsBetween (record r { rests = r.rests + 1 }) false y) (sym is) one)
