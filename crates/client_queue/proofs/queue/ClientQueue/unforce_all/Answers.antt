use Rattle.std.proofs.Common.{sym}
use Rattle.std.proofs.Math.Path.{subst}
use Rattle.module_graph.proofs.Sorting.{IsRising, none_rises}
use Rattle.client_queue.proofs.queue.ClientQueue.unforce_all.Goals as goal

pub invariant_of-self : goal.invariant_of-self
invariant_of-self c = (subst IsRising (sym c.clear.ensures.items) none_rises, c.self.invariant.1)
