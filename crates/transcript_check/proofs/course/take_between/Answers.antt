use Rattle.std.proofs.Common.{subst, sym}
use Rattle.record_laws.specs.Course.{taken_between}
use Rattle.transcript_check.specs.Following.{IsTaken}
use Rattle.transcript_check.proofs.course.take_between.Goals as goal

pub returns-in-Event : goal.returns-in-Event
returns-in-Event c = λ r h.
    subst (λ s. IsTaken c.begin.result (taken_between c.args.line r c.args.may s)) (sym c.in-Event.is) (c.begin.ensures c.args.may r h)
