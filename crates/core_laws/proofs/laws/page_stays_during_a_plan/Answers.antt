use Rattle.core_model.proofs.Replaying.{change_stays}
use Rattle.core_laws.proofs.Staying.{plan_stays}
use Rattle.core_laws.proofs.laws.page_stays_during_a_plan.Goals as goal

pub returns-clause-request : goal.returns-clause-request
returns-clause-request c i s client r p q e f = plan_stays i s client q r p e f

pub returns-clause-change : goal.returns-clause-change
returns-clause-change c = change_stays
