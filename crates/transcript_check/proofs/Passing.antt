-- A line takes the code from what the definition has to what the definition has.
use Rattle.std.proofs.Common.{ℕ, ◌+◌, List, [], ◌∷◌, length, Bool, true, false, ◌≡◌, refl, sym, ap, subst, ◌∙◌, Some, None, Result, Ok, Err}
use Rattle.std.specs.Prelude.{if◌then◌else◌}
use Rattle.std.specs.Global.{Vec}
use Rattle.play_script.specs.Script.{Line}
use Rattle.core_model.specs.Names.{Name}
use Rattle.record_text.specs.Lines.{said_of}
use Rattle.record_text.specs.declared.said.Said.{Said}
use Rattle.record_laws.specs.Course as meant
use Rattle.record_laws.specs.Course.{Opened, Replayed, Taken, at_end, bad, between, in_roots, judged, line_taken, or_no, read_as, roots_alone, roots_fault, taken, taken_between, taken_in_roots, taken_within, within}
use Rattle.record_laws.specs.declared.verdict.Verdict.{Verdict}
use Rattle.record_laws.specs.declared.verdict.Verdict.TheVariants.{Yes}
use Rattle.record_laws.specs.declared.verdict.Why.{Why}
use Rattle.record_laws.specs.declared.verdict.Why.TheVariants.{BadLine}
use Rattle.transcript_check.specs.Following.{IsAt, IsBetween, IsJudged, IsOnWay, IsSomeBetween, IsSomeWithin, IsSomewhere, IsTaken, IsWithin, kept_roots, opened_as}
use Rattle.transcript_check.specs.declared.course.Course.{Course}
use Rattle.transcript_check.specs.declared.course.Course.TheVariants as courses
use Rattle.transcript_check.specs.declared.halt.Halt.{Halt}
use Rattle.transcript_check.specs.declared.halt.Halt.TheVariants as halts
use Rattle.transcript_check.specs.declared.replay.Opened as kept
use Rattle.transcript_check.specs.declared.replay.Replay.{Replay}
use Rattle.transcript_check.proofs.Rooting.{fault_kept}

-- ---- what a line says is taken

at_between : (x : Replay) (may : Bool) (so_far : meant.Course) → IsAt so_far (courses.Between x may) → IsSomeBetween may x
at_between x may (in_roots roots) h = absurd h
at_between x may (between r allowed) h = record { replayed = r; between = h.1 }
at_between x may (within r begun) h = absurd h

pub some_between : (x : Replay) (may : Bool) → IsSomewhere (courses.Between x may) → IsSomeBetween may x
some_between x may h = at_between x may h.course h.at

at_within : (x : Replay) (opened : kept.Opened) (left : ℕ) (so_far : meant.Course) → IsAt so_far (courses.Within x opened left) → IsSomeWithin opened x left
at_within x opened left (in_roots roots) h = absurd h
at_within x opened left (between r allowed) h = absurd h
at_within x opened left (within r begun) h = record { replayed = r; within = h.1 }

pub some_within : (x : Replay) (opened : kept.Opened) (left : ℕ) → IsSomewhere (courses.Within x opened left) → IsSomeWithin opened x left
some_within x opened left h = at_within x opened left h.course h.at

pub roots_taken : (line : ℕ) (said : Said) (names : Vec Name) (result : Result Course Halt) → ((told : List Name) → names.items ≡ kept_roots told → IsTaken result (taken_in_roots line told said))
    → (so_far : meant.Course) → IsAt so_far (courses.InRoots names) → IsTaken result (taken line said so_far)
roots_taken line said names result t (in_roots roots) h = t roots h
roots_taken line said names result t (between r allowed) h = absurd h
roots_taken line said names result t (within r begun) h = absurd h

pub between_taken : (line : ℕ) (said : Said) (x : Replay) (may : Bool) (result : Result Course Halt) → ((r : Replayed) → IsBetween r may x → IsTaken result (taken_between line r may said))
    → (so_far : meant.Course) → IsAt so_far (courses.Between x may) → IsTaken result (taken line said so_far)
between_taken line said x may result t (in_roots roots) h = absurd h
between_taken line said x may result t (between r allowed) h = subst (λ b. IsTaken result (taken_between line r b said)) h.0 (t r h.1)
between_taken line said x may result t (within r begun) h = absurd h

pub within_taken : (line : ℕ) (said : Said) (x : Replay) (opened : kept.Opened) (left : ℕ) (result : Result Course Halt)
    → ((r : Replayed) → IsWithin r (opened_as opened) x left → IsTaken result (taken_within line r (opened_as opened) said))
    → (so_far : meant.Course) → IsAt so_far (courses.Within x opened left) → IsTaken result (taken line said so_far)
within_taken line said x opened left result t (in_roots roots) h = absurd h
within_taken line said x opened left result t (between r allowed) h = absurd h
within_taken line said x opened left result t (within r begun) h = subst (λ o. IsTaken result (taken_within line r o said)) h.0 (t r h.1)

-- ---- a line

pub line_said : (n : ℕ) (line : List ℕ) (ended : Bool) (said : Said) (so_far : meant.Course) (result : Result Course Halt) → ended ≡ true → said_of line ≡ Some said
    → IsTaken result (taken n said so_far) → IsTaken result (line_taken n line ended so_far)
line_said n line ended said so_far result e f t =
    subst (λ b. IsTaken result (if b then read_as n (said_of line) so_far else bad n)) (sym e) (subst (λ o. IsTaken result (read_as n o so_far)) (sym f) t)

pub line_unsaid : (n : ℕ) (line : List ℕ) (ended : Bool) (so_far : meant.Course) → ended ≡ true → said_of line ≡ None → IsTaken (Err (halts.At n BadLine)) (line_taken n line ended so_far)
line_unsaid n line ended so_far e f =
    subst (λ b. IsTaken (Err (halts.At n BadLine)) (if b then read_as n (said_of line) so_far else bad n)) (sym e) (subst (λ o. IsTaken (Err (halts.At n BadLine)) (read_as n o so_far)) (sym f) refl)

pub line_unended : (n : ℕ) (line : List ℕ) (ended : Bool) (so_far : meant.Course) → ended ≡ false → IsTaken (Err (halts.At n BadLine)) (line_taken n line ended so_far)
line_unended n line ended so_far e =
    subst (λ b. IsTaken (Err (halts.At n BadLine)) (if b then read_as n (said_of line) so_far else bad n)) (sym e) refl

-- ---- all lines

-- the definition has something behind the line too
record Goes (x : Course) (t : Taken) : Type 0 where
  pub next : meant.Course
  pub is : t ≡ Ok next
  pub at : IsAt next x

goes : (x : Course) (t : Taken) → IsTaken (Ok x) t → Goes x t
goes x (Ok next) h = record { next = next; is = refl; at = h }
goes x (Err wrong) h = absurd h

ends : (n : ℕ) (why : Why) (t : Taken) → IsTaken (Err (halts.At n why)) t → t ≡ Err (n, why)
ends n why (Ok next) h = absurd h
ends n why (Err wrong) h = ap (λ (w : ℕ × Why). Err w) h

-- what a first line makes of it
by_line : (so_far : meant.Course) (n : ℕ) (line : Line) (ls more : List Line) (t : Taken) → ls ≡ line ∷ more → line_taken n line.bytes line.ended so_far ≡ t
    → judged so_far n ls ≡ or_no t (λ next. judged next (n + 1) more)
by_line so_far n line ls more t e f = ap (λ xs. judged so_far n xs) e ∙ ap (λ t. or_no t (λ next. judged next (n + 1) more)) f

pub on_way : (x next : Course) (n : ℕ) (line : Line) (ls more : List Line) (verdict : Verdict) → ls ≡ line ∷ more → IsOnWay x n ls verdict
    → ((so_far : meant.Course) → IsAt so_far x → IsTaken (Ok next) (line_taken n line.bytes line.ended so_far)) → IsOnWay next (n + 1) more verdict
on_way x next n line ls more verdict e w takes =
    let g = goes next (line_taken n line.bytes line.ended w.course) (takes w.course w.at) in
    record { course = g.next; at = g.at; same = sym (by_line w.course n line ls more (Ok g.next) e g.is) ∙ w.same }

pub halted : (x : Course) (n : ℕ) (line : Line) (ls more : List Line) (halt : Halt) (verdict : Verdict) → ls ≡ line ∷ more → IsOnWay x n ls verdict
    → ((so_far : meant.Course) → IsAt so_far x → IsTaken (Err halt) (line_taken n line.bytes line.ended so_far)) → IsJudged (Err halt) verdict
halted x n line ls more (halts.At m why) verdict e w takes =
    sym w.same ∙ by_line w.course n line ls more (Err (m, why)) e (ends m why (line_taken n line.bytes line.ended w.course) (takes w.course w.at))
halted x n line ls more halts.NoMemory verdict e w takes = tt

pub ended : (x : Course) (n : ℕ) (ls : List Line) (verdict : Verdict) (result : Result Verdict Halt) → ls ≡ [] → IsOnWay x n ls verdict
    → ((so_far : meant.Course) → IsAt so_far x → IsJudged result (at_end n so_far)) → IsJudged result verdict
ended x n ls verdict result e w says =
    subst (λ v. IsJudged result v) (ap (λ xs. judged w.course n xs) (sym e) ∙ w.same) (says w.course w.at)

pub somewhere : (x : Course) (n : ℕ) (ls : List Line) (verdict : Verdict) → IsOnWay x n ls verdict → IsSomewhere x
somewhere x n ls verdict w = record { course = w.course; at = w.at }

-- ---- no line is left

pub roots_end : (line : ℕ) (names : Vec Name) (result : Result Verdict Halt) → IsJudged result (roots_alone (roots_fault names.items) line)
    → (so_far : meant.Course) → IsAt so_far (courses.InRoots names) → IsJudged result (at_end line so_far)
roots_end line names result j (in_roots roots) h = subst (λ o. IsJudged result (roots_alone o line)) (ap roots_fault h ∙ fault_kept roots) j
roots_end line names result j (between r allowed) h = absurd h
roots_end line names result j (within r begun) h = absurd h

pub between_end : (line : ℕ) (x : Replay) (may : Bool) (so_far : meant.Course) → IsAt so_far (courses.Between x may) → IsJudged (Ok (Yes x.steps x.rests)) (at_end line so_far)
between_end line x may (in_roots roots) h = absurd h
between_end line x may (between r allowed) h = ap (λ steps. Yes steps x.rests) h.1.replay.steps ∙ ap (λ rests. Yes (length r.past) rests) h.1.replay.rests
between_end line x may (within r begun) h = absurd h

pub within_end : (line : ℕ) (x : Replay) (opened : kept.Opened) (left : ℕ) (so_far : meant.Course) → IsAt so_far (courses.Within x opened left) → IsJudged (Err (halts.At line BadLine)) (at_end line so_far)
within_end line x opened left (in_roots roots) h = absurd h
within_end line x opened left (between r allowed) h = absurd h
within_end line x opened left (within r begun) h = refl
