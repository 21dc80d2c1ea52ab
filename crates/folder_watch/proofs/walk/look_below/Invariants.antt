use Rattle.std.proofs.Common.{◌≡◌, ◌≤◌, List, ℕ, Some, length}
use Rattle.folder_watch.specs.Listings.{most_names}
use Rattle.folder_watch.specs.Pending.{AreDeep, ArePlaced, paths_of}
use Rattle.folder_watch.specs.Scans.{Reaches, is_pending}
use Rattle.folder_watch.proofs.walk.look_below.Given as goal

-- what is found, and the folders of the level that comes next
abbrev pub invariant-loop-depth : goal.invariant-loop-depth
invariant-loop-depth g l = record {
  few : length l.found ≤ most_names;
  deep : AreDeep l._depth l.level.items;
  placed : (files : List (List ℕ × List ℕ)) → g.T.Tree.files l.fn.tree ≡ Some files → ArePlaced g.T.Tree.dir_path l.fn.level.items → ArePlaced g.T.Tree.dir_path l.level.items;
  reaches : (files : List (List ℕ × List ℕ)) → g.T.Tree.files l.fn.tree ≡ Some files → ArePlaced g.T.Tree.dir_path l.fn.level.items
      → Reaches files (is_pending (paths_of l.fn.level.items)) l.found (paths_of l.level.items);
  later : g.T.Tree.faults l.fn.tree ≤ g.T.Tree.faults l.tree;
  asked : g.T.Tree.asked l.tree ≡ g.T.Tree.asked l.fn.tree;
  files : g.T.Tree.files l.tree ≡ g.T.Tree.files l.fn.tree;
  coming : g.T.Tree.coming l.tree ≡ g.T.Tree.coming l.fn.tree;
}
