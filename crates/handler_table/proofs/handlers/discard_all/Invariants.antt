use Rattle.std.proofs.Common.{length}
use Rattle.handler_table.proofs.handlers.discard_all.Given as goal

-- each turn takes one out
abbrev pub decreases-loop-handler : goal.decreases-loop-handler
decreases-loop-handler g l = length l.handlers.items
