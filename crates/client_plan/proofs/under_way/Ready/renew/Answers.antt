use Rattle.std.proofs.Common.{◌≡◌, sym, ◌∙◌}
use Rattle.std.specs.Prelude.{OnOk}
use Rattle.std.proofs.Math.Path.{subst}
use Rattle.client_plan.specs.UnderWay.{AreModules}
use Rattle.client_plan.proofs.Renewal.{put_renewed}
use Rattle.client_plan.proofs.under_way.Ready.renew.Goals as goal

pub returns-in-Anew : goal.returns-in-Anew
returns-in-Anew c = λ r p v rises i same. c.put.ensures ∙ subst (AreModules r p) (sym c.replace.ensures.value ∙ c.in-Anew.is) i.modules

pub returns-in-Renewed : goal.returns-in-Renewed
returns-in-Renewed c = λ r p v rises i same.
    subst (λ w. OnOk c.renew.result (c.renew.new.view ≡ w))
    (put_renewed r p c.args.plan.now c.args.view.now c.deref.result.now (subst (AreModules r p) (sym c.replace.ensures.value ∙ c.in-Renewed.is) i.modules) same v rises i.none_needed (c.deref.ensures.value ∙ i.names)) c.renew.ensures
