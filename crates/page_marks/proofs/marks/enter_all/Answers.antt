use Rattle.page_marks.proofs.Renewing.{none_entered, entered_more}
use Rattle.page_marks.proofs.marks.enter_all.Goals as goal

pub loop-name-init : goal.loop-name-init
loop-name-init c = none_entered c.args.queue.now

-- what is on the page stays known
pub enter-requires : goal.enter-requires
enter-requires c = λ on. c.loop-name.invariant.grown.known c.name-item.result (c.requires c.name-item.result on)

pub loop-name-preserved : goal.loop-name-preserved
loop-name-preserved c = entered_more c.args.names.now c.loop-name.name-index c.name-item.result c.args.queue.now c.loop-name.queue c.enter.new.queue
    c.loop-name-test.true c.name-item.is c.loop-name.invariant c.enter.ensures.grown c.in_ok-enter.ensures.known
