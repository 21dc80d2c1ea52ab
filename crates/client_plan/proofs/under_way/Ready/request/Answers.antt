use Rattle.std.proofs.Common.{ap, sym, ◌∙◌}
use Rattle.std.specs.Option.{option_map}
use Rattle.update_msgs.specs.declared.message.ClientMsg.TheVariants as told
use Rattle.client_model.specs.Requesting.{apply_or_abort}
use Rattle.client_plan.specs.UnderWay.{cause_of}
use Rattle.client_plan.proofs.under_way.Ready.request.Goals as goal

pub returns-in_ok-table-in-None-clause-request : goal.returns-in_ok-table-in-None-clause-request
returns-in_ok-table-in-None-clause-request c = λ r p i view rises same.
    ap told.Applied (c.in_ok-table-in-None.ensures r p i view rises same) ∙ ap (λ o. apply_or_abort o p r) (sym (i.link ∙ ap (option_map cause_of) c.in-None.is))
