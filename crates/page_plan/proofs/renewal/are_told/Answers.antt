use Rattle.page_plan.proofs.Renewals.{told_more}
use Rattle.page_plan.proofs.renewal.are_told.Goals as goal

pub loop-name-preserved : goal.loop-name-preserved
loop-name-preserved c = told_more c.args.plan.now c.args.rows.now c.args.names.now c.loop-name.name-index c.name-item.result c.loop-name-test.true c.name-item.is c.loop-name.invariant (c.is_told_of.ensures c.if-not-is_told_of.false)
