use Rattle.hub_editor.proofs.Calls.{on_err, settled_called, went_refused}
use Rattle.hub_editor.proofs.telling.tell_result.Goals as goal

pub returns-in_err-call-clause-unsettled : goal.returns-in_err-call-clause-unsettled
returns-in_err-call-clause-unsettled g c = on_err c.from_residual.result (went_refused c.args.pass.now c.call.new.pass c.requires.number c.call.ensures.same c.call.ensures.transcript _ _ c.in_err-call.ensures.called)

pub returns-clause-settled : goal.returns-clause-settled
returns-clause-settled g c =
    settled_called c.args.pass.now c.call.new.pass c.requires.number c.call.ensures.same c.call.ensures.transcript
    (record { name = c.args.done.name; text = c.args.done.text; ver = c.args.ver }) c.args.done.outcome c.in_ok-call.field-0 c.in_ok-call.ensures.called
