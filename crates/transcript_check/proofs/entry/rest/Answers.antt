use Rattle.std.proofs.Common.{subst, sym, Err}
use Rattle.record_laws.specs.Course.{rested}
use Rattle.transcript_check.specs.Following.{IsTaken}
use Rattle.transcript_check.proofs.Answering.{may_be, no_rest, rest_right, rest_wrong}
use Rattle.transcript_check.proofs.entry.rest.Goals as goal

pub counted-requires : goal.counted-requires
counted-requires c = may_be c.args.may c.args.replay c.requires.between c.if-not-may.false

pub returns-then-not-may : goal.returns-then-not-may
returns-then-not-may c = λ r h.
    subst (λ e. IsTaken (Err e) (rested c.args.line c.args.client c.args.table.now c.args.may r)) (sym c.bad.ensures)
    (no_rest c.args.line c.args.client c.args.table.now c.args.may r c.if-not-may.true)

pub returns-then-not-rests : goal.returns-then-not-rests
returns-then-not-rests c = λ r h.
    rest_wrong c.args.line c.args.client c.args.table.now c.args.may r c.args.replay c.in_ok-rests.rests c.if-not-may.false h c.in_ok-rests.ensures c.if-not-rests.true

pub returns : goal.returns
returns c = λ r h.
    rest_right c.args.line c.args.client c.args.table.now c.args.may r c.args.replay c.counted.result c.in_ok-rests.rests c.if-not-may.false h c.in_ok-rests.ensures c.if-not-rests.false c.counted.ensures
