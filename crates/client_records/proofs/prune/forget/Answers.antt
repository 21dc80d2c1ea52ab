use Rattle.client_records.proofs.Pruning.{forgotten_at, forgotten_none}
use Rattle.client_records.proofs.prune.forget.Goals as goal

pub loop-name-init : goal.loop-name-init
loop-name-init c = forgotten_none c.args.queue.now

pub loop-name-preserved : goal.loop-name-preserved
loop-name-preserved c = forgotten_at c.args.names.now c.loop-name.name-index c.name-item.result c.args.queue.now c.loop-name.queue c.unforce.new.self c.leave.new.self
    c.loop-name-test.true c.name-item.is c.loop-name.invariant c.unforce.ensures c.leave.ensures.mark c.leave.ensures.kept
