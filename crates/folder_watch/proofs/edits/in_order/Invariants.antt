use Rattle.std.proofs.Common.{◌≡◌, ◌++◌}
use Rattle.folder_watch.specs.Listings.{Rises}
use Rattle.folder_watch.proofs.edits.in_order.Given as goal

-- the rows so far, and those that are left, are all
abbrev pub invariant-loop-name : goal.invariant-loop-name
invariant-loop-name l = record {
  whole : l.rows.items ++ l.name-iterator ≡ l.fn.edits.entries;
  rising : Rises l.fn.edits.entries;
}
