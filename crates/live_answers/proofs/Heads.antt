-- Bytes are at most one head, of which three things are told.
use Rattle.std.proofs.Common.{◌≡◌, ℕ, List, Some, None, refl, sym, ap, ◌∙◌, subst}
use Rattle.std.specs.Prelude.{Option}
use Rattle.httparse.specs.Grammar.{RequestHead}
use Rattle.http_heads.specs.Head.{IsHeadOf}
use Rattle.http_heads.specs.Asks.{Ask, asked_of}
use Rattle.http_heads.proofs.OneAsk.{one_head}
use Rattle.request_guard.specs.Admissions.{Admits, admission_of}
use Rattle.request_guard.specs.Admissions as guard
use Rattle.request_guard.specs.declared.admission.Admission.{Admission}
use Rattle.request_details.specs.Details.{Detail, Tells, details_of}
use Rattle.request_details.specs.Details as details
use Rattle.live_answers.specs.Wants.{Want, Wants, a_head, want_by}

-- who a head is of
admits_head : (port : ℕ) (bytes : List ℕ) (by : Option Admission) (h : RequestHead)
    → Admits port bytes by → IsHeadOf bytes h → by ≡ Some (admission_of port h)
admits_head port bytes _ h (guard.a_head k other) is =
    ap (λ x. Some (admission_of port x)) (one_head bytes k h other is)
admits_head port bytes _ h (guard.no_head none) is = absurd (none h is)

-- the bytes are a head, of which that is told, or they are none
abbrev pub ToldHead : ℕ → List ℕ → Option Detail → Type 0
ToldHead port bytes (Some d) = (h : RequestHead) × IsHeadOf bytes h × (d ≡ details_of port h)
ToldHead port bytes None = (h : RequestHead) → ¬ (IsHeadOf bytes h)

pub told_head : (port : ℕ) (bytes : List ℕ) (told : Option Detail) → Tells port bytes told
    → ToldHead port bytes told
told_head port bytes _ (details.a_head h is) = (h, is, refl)
told_head port bytes _ (details.no_head none) = none

-- what a head wants, where three things are told of it
pub head_wants : (port : ℕ) (bytes : List ℕ) (by : Option Admission) (ask : Ask) (d : Detail) (want : Want)
    → ToldHead port bytes (Some d) → Admits port bytes by
    → ((h : RequestHead) → IsHeadOf bytes h → ask ≡ asked_of h)
    → want ≡ want_by by ask d → Wants port bytes want
head_wants port bytes by ask d want (h, is, tells) admits asks same =
    let who = admits_head port bytes by h admits is in
    let what = asks h is in
    subst (Wants port bytes) (sym (same ∙ rw (who, what, tells) refl)) (a_head h is)
