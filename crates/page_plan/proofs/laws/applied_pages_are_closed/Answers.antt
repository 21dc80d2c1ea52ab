use Rattle.page_plan.proofs.Renewals.{made_closed}
use Rattle.page_plan.proofs.laws.applied_pages_are_closed.Goals as goal

pub returns : goal.returns
returns c = made_closed
