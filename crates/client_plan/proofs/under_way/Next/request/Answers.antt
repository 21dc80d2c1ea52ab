use Rattle.std.proofs.Common.{◌≡◌, sym}
use Rattle.std.specs.Prelude.{IfOk}
use Rattle.std.proofs.Math.Path.{subst}
use Rattle.client_model.specs.Linking.{link_cause}
use Rattle.client_model.specs.Requesting.{fetch_or_finish}
use Rattle.module_language.specs.ModuleLanguage.{module_language}
use Rattle.client_plan.specs.UnderWay.{IsNext, IsReady}
use Rattle.client_plan.proofs.under_way.Next.request.Goals as goal

pub returns-in-Finish-clause-request : goal.returns-in-Finish-clause-request
returns-in-Finish-clause-request c = λ r p i view rises same.
    let ready : IsReady r p c.in-Finish.ready = subst (IsNext r p) c.in-Finish.is i in
    subst (λ o. IfOk c.request.result (λ asked. asked ≡ fetch_or_finish o (link_cause module_language p r) p r)) (sym ready.none_needed) (c.request.ensures.request r p ready view rises same)
