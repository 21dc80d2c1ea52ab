use Rattle.page_plan.proofs.Same.{entry_same, view_same, row_same, walked_same, at_same}
use Rattle.page_plan.proofs.laws.same_plans.Goals as goal

pub returns : goal.returns
returns c = record { entries = entry_same; view = view_same; row = row_same; walk = walked_same; moment = at_same }
