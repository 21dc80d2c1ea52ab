use Rattle.page_plan.proofs.Numbering.{rows_more}
use Rattle.page_plan.proofs.told.Told.of.Goals as goal

pub loop-row-preserved : goal.loop-row-preserved
loop-row-preserved c n = rows_more c.args.rows.now c.loop-row.versions.entries c.keep_first.new.values.entries c.loop-row.row-index c.row-item.result n c.loop-row-test.true c.row-item.is (c.loop-row.invariant n) (c.in_ok-keep_first.ensures n)
