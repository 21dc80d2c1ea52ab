use Rattle.page_plan.proofs.Making.{staged_same}
use Rattle.page_plan.proofs.plan.Plan.stage.Goals as goal

pub returns-clause-ok : goal.returns-clause-ok
returns-clause-ok c = rw (← c.self.view_is) (λ p s. staged_same p _ c.args.name (record { version = c.args.version; analysis = c.args.analysis }) c.put.new.self s c.in_ok-put.ensures.ok)
