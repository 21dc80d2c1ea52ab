use Rattle.std.proofs.Common.{◌∙◌, ap, subst, sym}
use Rattle.std.proofs.lemmas.List.Elements.{All-cons}
use Rattle.events_and_replies.specs.Said.{event_of}
use Rattle.record_text.specs.Told.{IsTold}
use Rattle.record_laws.specs.Answers.{reply_told}
use Rattle.event_facts.specs.Tellable.{IsTellable}
use Rattle.transcript_check.proofs.Speaking.{reply_writable}
use Rattle.transcript_check.proofs.replay.tell.Goals as goal

pub returns-clause-told : goal.returns-clause-told
returns-clause-told c = λ past told. record {
  stands = c.in_ok-reply.ensures.stands past told.stands;
  tellable = All-cons IsTellable (event_of c.args.event) past c.note_event.ensures told.tellable;
}

pub returns-clause-reply : goal.returns-clause-reply
returns-clause-reply c = λ past told. c.reply_told.ensures ∙ ap reply_told (sym (c.in_ok-reply.ensures.reply past told.stands))

pub returns-clause-writable : goal.returns-clause-writable
returns-clause-writable c =
    let known = c.requires.told in
    subst IsTold (sym (c.reply_told.ensures ∙ ap reply_told (sym (c.in_ok-reply.ensures.reply known.past known.told.stands))))
    (reply_writable c.args.core.now.roots known.past (event_of c.args.event) known.told.tellable c.note_event.ensures)
