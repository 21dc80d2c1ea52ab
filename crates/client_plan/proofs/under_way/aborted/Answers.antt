use Rattle.std.proofs.Common.{◌≡◌}
use Rattle.std.specs.Prelude.{IfOk}
use Rattle.std.proofs.Math.Path.{subst}
use Rattle.client_plan.specs.UnderWay.{cause_of}
use Rattle.client_plan.proofs.Ends.{untold_abort}
use Rattle.client_plan.proofs.under_way.aborted.Goals as goal

pub returns : goal.returns
returns c = subst (λ m. IfOk c.abort_message.result (λ asked. asked ≡ m)) (untold_abort (cause_of c.args.cause.now)) c.abort_message.ensures.message
