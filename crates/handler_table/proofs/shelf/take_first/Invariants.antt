use Rattle.std.proofs.Common.{◌≡◌, ◌++◌, take, drop}
use Rattle.handler_table.specs.Shelf.{first_of, without_first}
use Rattle.handler_table.proofs.shelf.take_first.Given as goal

-- the first is not among those that were looked at
abbrev pub invariant-loop-place : goal.invariant-loop-place
invariant-loop-place g l =
    let items = l.items.items in
    record {
      same : l.items.items ≡ l.fn.items.items;
      first : first_of l.label (drop l.place items) ≡ first_of l.label items;
      left : take l.place items ++ without_first l.label (drop l.place items) ≡ without_first l.label items;
    }
