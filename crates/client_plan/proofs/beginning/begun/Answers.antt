use Rattle.std.specs.Prelude.{IfOk}
use Rattle.std.proofs.Math.Path.{subst}
use Rattle.core_model.specs.Page.{new_plan}
use Rattle.client_model.specs.Answering.{begin}
use Rattle.client_plan.specs.UnderWay.{IsUnderWay}
use Rattle.client_plan.proofs.beginning.begun.Goals as goal

pub returns-clause-under_way : goal.returns-clause-under_way
returns-clause-under_way c = λ r kind replaced roots view same.
    subst (λ pairs. IfOk c.started.result (IsUnderWay (begin kind replaced pairs r) (new_plan kind replaced))) c.new.ensures.items
    (c.started.ensures.under_way r kind replaced roots view same tt)

pub returns-clause-planned : goal.returns-clause-planned
returns-clause-planned c = λ kind replaced loaded same loads. c.started.ensures.planned kind replaced loaded same loads
