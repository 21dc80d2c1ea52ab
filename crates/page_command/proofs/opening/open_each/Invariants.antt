use Rattle.std.proofs.Common.{◌≡◌, ◌++◌, []}
use Rattle.std.specs.Vec.Iter.{into_iter_items}
use Rattle.folder_watch.specs.Edits.{rows_of}
use Rattle.version_map.specs.Standing.{StandsFor}
use Rattle.page_command.specs.Opening.{AreAccepted, opened}
use Rattle.page_command.proofs.opening.open_each.Given as goal

-- the edits so far were made and settled
abbrev pub invariant-loop-name : goal.invariant-loop-name
invariant-loop-name l = record {
  all : l.yielded ++ into_iter_items l.name-iterator ≡ l.fn.edits.items;
  stands : StandsFor (opened [] (rows_of l.yielded)) l.map;
  accepted : AreAccepted [] (rows_of l.yielded);
}
