use Rattle.std.proofs.Common.{sym, ◌∙◌, subst, Some, refl}
use Rattle.request_details.specs.Details.{Tells, a_head, no_head}
use Rattle.request_details.proofs.reading.read_details.Goals as goal

pub returns-in-Some : goal.returns-in-Some
returns-in-Some c =
    let found = c.in-Some.ensures.some in
    let at = found.2 in
    let same = c.details_at.ensures ∙ rw (at.method, at.path, at.version, at.fields) refl in
    subst (λ d. Tells c.args.port c.args.bytes.now (Some d)) (sym same) (a_head found.0 found.1)

pub returns-in-None : goal.returns-in-None
returns-in-None c = no_head (λ h is. rw c.in-None.is at (c.whole_head.ensures.found h is))
