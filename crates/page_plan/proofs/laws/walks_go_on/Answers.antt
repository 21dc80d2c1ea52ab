use Rattle.page_plan.proofs.Same.{at_fetched}
use Rattle.page_plan.proofs.laws.walks_go_on.Goals as goal

pub returns : goal.returns
returns c = at_fetched
