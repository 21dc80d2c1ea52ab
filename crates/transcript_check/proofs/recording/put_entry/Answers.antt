use Rattle.std.proofs.Common.{◌∷◌, ◌∙◌, ap, subst, sym}
use Rattle.events_and_replies.specs.Said.{event_of}
use Rattle.record_laws.specs.Answers.{reply_after, reply_told}
use Rattle.transcript_check.specs.Following.{IsTold}
use Rattle.transcript_check.proofs.Written.{any_end, entry_ends}
use Rattle.transcript_check.proofs.recording.put_entry.Goals as goal

pub returns-clause-told : goal.returns-clause-told
returns-clause-told c = λ past h.
    let told = subst (λ e. IsTold (e ∷ past) c.tell.new.core) c.in_ok-copy.ensures (c.in_ok-told.ensures.told past h) in
    any_end c.put_rest.result (IsTold (event_of c.args.event.now ∷ past) c.tell.new.core) told

pub returns-clause-text : goal.returns-clause-text
returns-clause-text c = λ past h.
    let event = event_of c.args.event.now in
    let told = subst (λ e. IsTold (e ∷ past) c.tell.new.core) c.in_ok-copy.ensures (c.in_ok-told.ensures.told past h) in
    let reply = c.in_ok-told.ensures.reply past h ∙ ap (λ e. reply_told (reply_after c.args.core.now.roots past e)) c.in_ok-copy.ensures in
    entry_ends c.put_rest.result c.args.core.now.roots past event c.in_ok-told.told c.in_ok-line.line c.client_in.result c.tell.new.core c.args.out.now.items c.put_line.new.out.items c.put_rest.new.out.items
    c.tell.ensures.roots c.client_in.ensures reply c.in_ok-line.ensures c.in_ok-put_line.ensures (sym c.is_done.ensures ∙ c.if-not-is_done.false) (c.put_rest.ensures (event ∷ past) told.stands)
