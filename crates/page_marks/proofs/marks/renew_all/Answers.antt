use Rattle.page_marks.proofs.Renewing.{none_renewed, renewed_more}
use Rattle.page_marks.proofs.marks.renew_all.Goals as goal

pub loop-name-init : goal.loop-name-init
loop-name-init c = none_renewed c.args.page.now c.args.sources.now c.args.queue.now

pub loop-name-preserved : goal.loop-name-preserved
loop-name-preserved c = renewed_more c.args.page.now c.args.sources.now c.args.names.now c.loop-name.name-index c.name-item.result c.args.queue.now c.loop-name.queue c.renew.new.queue
    c.loop-name-test.true c.name-item.is c.loop-name.invariant c.renew.ensures.mark c.renew.ensures.kept
