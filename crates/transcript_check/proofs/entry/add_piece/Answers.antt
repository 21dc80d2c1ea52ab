use Rattle.std.proofs.Common.{subst, sym, Err}
use Rattle.record_laws.specs.Course.{with_more}
use Rattle.transcript_check.specs.Following.{IsTaken, opened_as}
use Rattle.transcript_check.proofs.Answering.{more_placed, no_piece}
use Rattle.transcript_check.proofs.Entering.{open_within}
use Rattle.transcript_check.proofs.entry.add_piece.Goals as goal

pub returns-then-not-opened : goal.returns-then-not-opened
returns-then-not-opened c = λ left r h.
    subst (λ e. IsTaken (Err e) (with_more c.args.line c.args.more c.args.piece.now (opened_as c.args.opened) r)) (sym c.bad.ensures)
    (no_piece c.args.line c.args.more c.args.piece.now c.args.opened r c.if-not-opened.true)

pub returns : goal.returns
returns c = λ left r h.
    more_placed c.args.line c.args.more c.args.piece.now c.args.opened r c.in_ok-event.event c.place.result c.if-not-opened.false c.in_ok-event.ensures (c.place.ensures r (open_within r (opened_as c.args.opened) c.args.replay left h))
