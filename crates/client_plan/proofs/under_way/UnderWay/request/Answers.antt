use Rattle.std.proofs.Common.{◌≡◌, sym, ap, ◌∙◌}
use Rattle.std.specs.Prelude.{IfOk}
use Rattle.std.specs.Option.{option_map}
use Rattle.std.proofs.Math.Path.{subst}
use Rattle.client_model.specs.Requesting.{carry_on}
use Rattle.module_language.specs.ModuleLanguage.{module_language}
use Rattle.client_plan.specs.UnderWay.{cause_of}
use Rattle.client_plan.proofs.under_way.UnderWay.request.Goals as goal

pub returns-in-None-clause-request : goal.returns-in-None-clause-request
returns-in-None-clause-request c = λ r p i view rises.
    subst (λ o. IfOk c.request.result (λ asked. asked ≡ carry_on o module_language p r)) (sym (i.cause ∙ ap (option_map cause_of) c.in-None.is)) (c.request.ensures.request r p i.next view rises i.plan)
