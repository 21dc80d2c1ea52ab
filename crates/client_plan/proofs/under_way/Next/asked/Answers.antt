use Rattle.std.proofs.Common.{◌≡◌, ap, sym, ◌∙◌}
use Rattle.std.specs.Prelude.{IfOk}
use Rattle.std.proofs.Math.Path.{subst}
use Rattle.client_model.specs.Linking.{link_cause}
use Rattle.client_model.specs.Requesting.{fetch_or_finish}
use Rattle.update_msgs.specs.declared.message.ClientMsg.TheVariants as told
use Rattle.module_language.specs.ModuleLanguage.{module_language}
use Rattle.client_plan.specs.UnderWay.{IsNext, IsReady, untold}
use Rattle.client_plan.proofs.under_way.Next.asked.Goals as goal

pub returns-in_ok-copy_name-in-Fetch : goal.returns-in_ok-copy_name-in-Fetch
returns-in_ok-copy_name-in-Fetch c = λ r p i.
    ap told.Fetch c.in_ok-copy_name-in-Fetch.ensures ∙ ap (λ o. untold (fetch_or_finish o (link_cause module_language p r) p r)) (sym (subst (IsNext r p) c.in-Fetch.is i))

pub returns-in-Finish : goal.returns-in-Finish
returns-in-Finish c = λ r p i.
    let ready : IsReady r p c.in-Finish.ready = subst (IsNext r p) c.in-Finish.is i in
    subst (λ o. IfOk c.asked.result (λ asked. asked ≡ untold (fetch_or_finish o (link_cause module_language p r) p r))) (sym ready.none_needed) (c.asked.ensures r p ready)
