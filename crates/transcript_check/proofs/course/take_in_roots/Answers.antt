use Rattle.std.proofs.Common.{subst, sym}
use Rattle.record_laws.specs.Course.{taken_in_roots}
use Rattle.transcript_check.specs.Following.{IsTaken}
use Rattle.transcript_check.proofs.Rooting.{first_told}
use Rattle.transcript_check.proofs.course.take_in_roots.Goals as goal

pub returns-in-Event : goal.returns-in-Event
returns-in-Event c = λ told h.
    subst (λ s. IsTaken c.begin_first.result (taken_in_roots c.args.line told s)) (sym c.in-Event.is)
    (first_told c.args.line c.in-Event.event told c.args.roots.items c.begin_first.result h c.begin_first.ensures)
