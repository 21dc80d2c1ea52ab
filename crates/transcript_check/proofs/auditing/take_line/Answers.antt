use Rattle.std.proofs.Common.{subst, sym, Err}
use Rattle.record_laws.specs.Course.{line_taken}
use Rattle.transcript_check.specs.Following.{IsTaken}
use Rattle.transcript_check.proofs.Passing.{line_said, line_unended, line_unsaid}
use Rattle.transcript_check.proofs.auditing.take_line.Goals as goal

pub returns-then-not-ended : goal.returns-then-not-ended
returns-then-not-ended c = λ so_far h.
    subst (λ e. IsTaken (Err e) (line_taken c.args.number c.args.line.now c.args.ended so_far)) (sym c.bad.ensures)
    (line_unended c.args.number c.args.line.now c.args.ended so_far c.if-not-ended.true)

pub returns-in-Ok : goal.returns-in-Ok
returns-in-Ok c = λ so_far h.
    line_said c.args.number c.args.line.now c.args.ended c.in-Ok.said so_far c.take.result c.if-not-ended.false c.in-Ok.ensures (c.take.ensures so_far h)

pub returns-in-Err-BadLine : goal.returns-in-Err-BadLine
returns-in-Err-BadLine c = λ so_far h.
    subst (λ e. IsTaken (Err e) (line_taken c.args.number c.args.line.now c.args.ended so_far)) (sym c.bad-in-Err-BadLine.ensures)
    (line_unsaid c.args.number c.args.line.now c.args.ended so_far c.if-not-ended.false (rw c.in-Err-BadLine.field-0-is at c.in-Err-BadLine.ensures))
