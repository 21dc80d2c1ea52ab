use Rattle.std.proofs.Common.{◌≡◌, ◌++◌, ◌-◌}
use Rattle.std.specs.List.{All}
use Rattle.handler_table.specs.Held.{IsHost}
use Rattle.handler_table.specs.Shelf.{Extends, marks_of, numbered}
use Rattle.handler_table.proofs.shelf.Shelf.fill.Given as goal

-- the closures so far, with those that are still to come
abbrev pub invariant-loop-number : goal.invariant-loop-number
invariant-loop-number g l =
    record {
      stays : Extends l.fn.self l.self;
      numbers : marks_of l.self ++ numbered l.label l.number (l.end - l.number) ≡ marks_of l.fn.self ++ numbered l.label l.fn.first (l.fn.end - l.fn.first);
      hosts : All (IsHost (goal.F-post g)) l.fn.self → All (IsHost (goal.F-post g)) l.self;
    }
