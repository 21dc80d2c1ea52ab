use Rattle.std.proofs.Common.{sym, ◌∙◌}
use Rattle.client_plan.proofs.Ends.{cause_found, cause_left}
use Rattle.client_plan.proofs.under_way.UnderWay.take_cause.Goals as goal

pub returns-in-Some : goal.returns-in-Some
returns-in-Some c = λ r p i t. cause_found c.args.self.now _ (sym c.take.ensures.value ∙ c.in-Some.is) r p i

pub returns-in-None : goal.returns-in-None
returns-in-None c = λ r p i t. cause_left c.args.self.now _ (sym c.take.ensures.value ∙ c.in-None.is) r p i (c.take_cause.ensures r p) t
