use Rattle.std.proofs.Common.{subst, sym}
use Rattle.record_laws.specs.Course.{taken_within}
use Rattle.transcript_check.specs.Following.{IsTaken, opened_as}
use Rattle.transcript_check.proofs.course.take_within.Goals as goal

pub returns-in-Text : goal.returns-in-Text
returns-in-Text c = λ r h.
    subst (λ s. IsTaken c.add_piece.result (taken_within c.args.line r (opened_as c.args.opened) s)) (sym c.in-Text.is) (c.add_piece.ensures c.args.left r h)

pub returns-in-Last : goal.returns-in-Last
returns-in-Last c = λ r h.
    subst (λ s. IsTaken c.add_piece-in-Last.result (taken_within c.args.line r (opened_as c.args.opened) s)) (sym c.in-Last.is) (c.add_piece-in-Last.ensures c.args.left r h)
