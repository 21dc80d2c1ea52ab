use Rattle.std.proofs.Common.{subst}
use Rattle.record_laws.specs.Course.{with_event}
use Rattle.transcript_check.specs.Following.{IsTaken}
use Rattle.transcript_check.proofs.Entering.{open_between}
use Rattle.transcript_check.proofs.entry.begin.Goals as goal

pub returns : goal.returns
returns c = λ may r h.
    subst (λ t. IsTaken c.place.result (with_event (record { line = c.args.line; event = c.args.event; text = t }) r)) c.has_text-text.ensures
    (c.place.ensures r (open_between r may c.args.replay h))
