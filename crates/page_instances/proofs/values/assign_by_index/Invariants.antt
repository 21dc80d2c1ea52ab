use Rattle.std.proofs.Common.{◌≡◌, ◌++◌, take, drop}
use Rattle.page_instances.specs.Assigning.{last_value}
use Rattle.page_instances.proofs.Assigning.{with_values}
use Rattle.page_instances.proofs.values.assign_by_index.Given as goal

-- those so far have their last values, and the others are as they were
abbrev pub invariant-loop-variable : goal.invariant-loop-variable
invariant-loop-variable l =
    take l.variable-index l.variable-items ++ with_values (last_value l.changes) (drop l.variable-index l.variable-items)
    ≡ with_values (last_value l.changes) l.fn.values.items
