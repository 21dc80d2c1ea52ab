use Rattle.std.proofs.Common.{◌∷◌, ◌∙◌, subst, sym}
use Rattle.events_and_replies.specs.Said.{event_of}
use Rattle.transcript_check.specs.Following.{IsTold, opened_as}
use Rattle.transcript_check.proofs.Answering.{answer_is, reply_right, reply_wrong, told_within}
use Rattle.transcript_check.proofs.Entering.{event_small}
use Rattle.transcript_check.proofs.entry.answer.Goals as goal

pub core_event-requires : goal.core_event-requires
core_event-requires c =
    let known = c.requires.within in
    event_small known.replayed (opened_as c.args.opened) c.args.replay c.args.left known.within

pub tell-requires : goal.tell-requires
tell-requires c =
    let known = c.requires.within in
    record { told = told_within known.replayed (opened_as c.args.opened) c.args.replay c.args.left known.within }

pub returns-then-not-is_text : goal.returns-then-not-is_text
returns-then-not-is_text c = λ r h.
    let text = answer_is r (opened_as c.args.opened) c.args.replay c.args.left (event_of c.in_ok-event.event) c.in_ok-told.told c.in_ok-text.text h c.in_ok-event.ensures c.in_ok-told.ensures.reply c.in_ok-text.ensures in
    reply_wrong c.args.line c.args.reply.now c.in_ok-text.text (opened_as c.args.opened) r text (rw (c.as_slice.ensures, c.as_slice-2.ensures) at (sym c.is_text.ensures ∙ c.if-not-is_text.true))

pub returns : goal.returns
returns c = λ r h.
    let text = answer_is r (opened_as c.args.opened) c.args.replay c.args.left (event_of c.in_ok-event.event) c.in_ok-told.told c.in_ok-text.text h c.in_ok-event.ensures c.in_ok-told.ensures.reply c.in_ok-text.ensures in
    reply_right c.args.line c.args.reply.now c.in_ok-text.text (opened_as c.args.opened) r c.args.replay c.args.left c.tell.new.core text (rw (c.as_slice.ensures, c.as_slice-2.ensures) at (sym c.is_text.ensures ∙ c.if-not-is_text.false)) h c.tell.ensures.roots
    (subst (λ e. IsTold (e ∷ r.past) c.tell.new.core) c.in_ok-event.ensures (c.in_ok-told.ensures.told r.past h.replay.told))
