use Rattle.std.proofs.Common.{subst, sym}
use Rattle.std.specs.Prelude.{Ok}
use Rattle.hmr_hub.specs.Calls.{Called}
use Rattle.hub_editor.specs.Edits.{edit_event, text_in}
use Rattle.hub_editor.proofs.Calls.{on_err, reply_called, told_called, went_refused}
use Rattle.hub_editor.proofs.telling.tell_edit.Goals as goal

pub returns-in_err-reply-clause-untold : goal.returns-in_err-reply-clause-untold
returns-in_err-reply-clause-untold g c = on_err c.from_residual.result (went_refused c.args.pass.now c.call.new.pass c.requires.number c.call.ensures.same c.call.ensures.transcript _ _ c.in_err-reply.ensures.called)

pub answer_in-requires : goal.answer_in-requires
answer_in-requires g c = reply_called c.args.pass.now c.call.new.pass c.requires.number c.call.ensures.same c.call.ensures.transcript (c.args.name, text_in c.args.text) c.in_ok-reply.reply c.in_ok-reply.ensures.called

pub returns-clause-told : goal.returns-clause-told
returns-clause-told g c =
    told_called c.args.pass.now c.call.new.pass c.requires.number c.call.ensures.same c.call.ensures.transcript (c.args.name, text_in c.args.text) c.answer_in.result
    (subst (λ r. Called (edit_event (c.args.name, text_in c.args.text)) (Ok r) c.args.pass.now c.call.new.pass) (sym c.answer_in.ensures.is) c.in_ok-reply.ensures.called)
