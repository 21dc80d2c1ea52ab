use Rattle.std.proofs.Common.{take}
use Rattle.page_instances.specs.Assigning.{TellsLast}
use Rattle.page_instances.proofs.values.last_values.Given as goal

-- the changes so far are told
abbrev pub invariant-loop-change : goal.invariant-loop-change
invariant-loop-change l = TellsLast l.index (take l.change-index l.changes)
