use Rattle.std.proofs.Common.{◌≡◌, sym, ap, ◌∙◌}
use Rattle.std.specs.Prelude.{IfOk}
use Rattle.std.specs.Option.{option_map}
use Rattle.std.proofs.Math.Path.{subst}
use Rattle.client_model.specs.Requesting.{carry_on}
use Rattle.module_language.specs.ModuleLanguage.{module_language}
use Rattle.client_plan.specs.UnderWay.{cause_of, untold}
use Rattle.client_plan.proofs.under_way.UnderWay.asked.Goals as goal

pub returns-in-Some : goal.returns-in-Some
returns-in-Some c = λ r p i.
    subst (λ o. IfOk c.aborted.result (λ asked. asked ≡ untold (carry_on o module_language p r))) (sym (i.cause ∙ ap (option_map cause_of) c.in-Some.is)) c.aborted.ensures

pub returns-in-None : goal.returns-in-None
returns-in-None c = λ r p i.
    subst (λ o. IfOk c.asked.result (λ asked. asked ≡ untold (carry_on o module_language p r))) (sym (i.cause ∙ ap (option_map cause_of) c.in-None.is)) (c.asked.ensures r p i.next)
