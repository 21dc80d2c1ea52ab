use Rattle.page_plan.proofs.Renewals.{fetched_more}
use Rattle.page_plan.proofs.plan.Plan.fetched.Goals as goal

pub loop-name-preserved : goal.loop-name-preserved
loop-name-preserved c = fetched_more c.args.self.now c.args.names.now c.loop-name.name-index c.name-item.result _ c.loop-name.rows.items c.push_found.new.rows.items c.loop-name-test.true c.name-item.is c.loop-name.invariant c.staged.ensures c.in_ok-push_found.ensures
