use Rattle.std.proofs.Common.{◌≡◌, length}
use Rattle.page_instances.proofs.leave.drop_own.Given as goal

abbrev pub invariant-loop-handler : goal.invariant-loop-handler
invariant-loop-handler g l = record l.held { own = l.fn.held.own } ≡ l.fn.held

abbrev pub decreases-loop-handler : goal.decreases-loop-handler
decreases-loop-handler g l = length l.held.own
