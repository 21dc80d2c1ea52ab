use Rattle.std.proofs.Common.{◌≡◌, ◌∙◌}
use Rattle.std.specs.Prelude.{IfOk}
use Rattle.core_model.specs.View.{table_of}
use Rattle.std.proofs.Math.Path.{subst}
use Rattle.client_plan.specs.UnderWay.{AreModules}
use Rattle.client_plan.proofs.Renewal.{table_renewed}
use Rattle.client_plan.proofs.under_way.Ready.table.Goals as goal

pub returns-in-Anew : goal.returns-in-Anew
returns-in-Anew c = λ r p i view rises same.
    subst (λ v. IfOk c.table_of.result (λ table. table ≡ table_of v)) (subst (AreModules r p) c.in-Anew.is i.modules) c.table_of.ensures

pub returns-in-Renewed : goal.returns-in-Renewed
returns-in-Renewed c = λ r p i view rises same.
    subst (λ v. IfOk c.renewed_table.result (λ table. table ≡ table_of v))
    (table_renewed r p c.args.plan.now c.args.view.now c.deref.result.now (subst (AreModules r p) c.in-Renewed.is i.modules) same view rises i.none_needed (c.deref.ensures.value ∙ i.names)) (c.renewed_table.ensures rises)
