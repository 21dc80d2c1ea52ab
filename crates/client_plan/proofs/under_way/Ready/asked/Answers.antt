use Rattle.std.proofs.Common.{◌≡◌, ap, sym, ◌∙◌}
use Rattle.std.specs.Prelude.{IfOk}
use Rattle.std.specs.Option.{option_map}
use Rattle.std.proofs.Math.Path.{subst}
use Rattle.client_model.specs.Requesting.{apply_or_abort}
use Rattle.update_msgs.specs.declared.message.ClientMsg.TheVariants as told
use Rattle.client_plan.specs.UnderWay.{cause_of, untold}
use Rattle.client_plan.proofs.under_way.Ready.asked.Goals as goal

pub returns-in-Some : goal.returns-in-Some
returns-in-Some c = λ r p i.
    subst (λ o. IfOk c.aborted.result (λ asked. asked ≡ untold (apply_or_abort o p r))) (sym (i.link ∙ ap (option_map cause_of) c.in-Some.is)) c.aborted.ensures

pub returns-in_ok-no_table-in-None : goal.returns-in_ok-no_table-in-None
returns-in_ok-no_table-in-None c = λ r p i.
    ap told.Applied c.in_ok-no_table-in-None.ensures ∙ ap (λ o. untold (apply_or_abort o p r)) (sym (i.link ∙ ap (option_map cause_of) c.in-None.is))
