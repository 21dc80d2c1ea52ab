use Rattle.std.proofs.Common.{sym, ap, ◌∙◌, subst, Some}
use Rattle.request_guard.specs.Admissions.{Admits, a_head, no_head, admission_at}
use Rattle.request_guard.proofs.admission.admit.Goals as goal

pub returns-in-Some : goal.returns-in-Some
returns-in-Some c =
    let found = c.in-Some.ensures.some in
    let same = c.admission_at.ensures ∙ ap (admission_at c.args.port) found.2.fields in
    subst (λ a. Admits c.args.port c.args.bytes.now (Some a)) (sym same) (a_head found.0 found.1)

pub returns-in-None : goal.returns-in-None
returns-in-None c = no_head (λ h is. rw c.in-None.is at (c.whole_head.ensures.found h is))
