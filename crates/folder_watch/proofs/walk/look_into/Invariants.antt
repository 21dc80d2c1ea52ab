use Rattle.std.proofs.Common.{◌≡◌, ◌+◌, ◌≤◌, List, [], ℕ, Some, length}
use Rattle.std.specs.Prelude.{◌&&◌, not}
use Rattle.std.specs.Vec.Iter.{into_iter_items, into_iter_len}
use Rattle.folder_watch.specs.Listings.{most_names}
use Rattle.folder_watch.specs.Pending.{AreDeep, ArePlaced, paths_of}
use Rattle.folder_watch.specs.Scans.{Covers, is_pending}
use Rattle.folder_watch.proofs.walk.look_into.Given as goal

-- what the folders so far gave, and those that are left
abbrev pub invariant-loop-folder : goal.invariant-loop-folder
invariant-loop-folder g l = record {
  left : into_iter_len l.folder-iterator ≡ length (into_iter_items l.folder-iterator);
  few : length l.found ≤ most_names;
  deep : (depth : ℕ) → AreDeep depth l.fn.level.items → AreDeep depth (into_iter_items l.folder-iterator);
  deeper : (depth : ℕ) → AreDeep depth l.fn.level.items → AreDeep (depth + 1) l.next.items;
  stand : ArePlaced g.T.Tree.dir_path l.fn.level.items → ArePlaced g.T.Tree.dir_path (into_iter_items l.folder-iterator);
  placed : (files : List (List ℕ × List ℕ)) → g.T.Tree.files l.fn.tree ≡ Some files → ArePlaced g.T.Tree.dir_path l.fn.level.items → ArePlaced g.T.Tree.dir_path l.next.items;
  covers : (files : List (List ℕ × List ℕ)) → g.T.Tree.files l.fn.tree ≡ Some files → ArePlaced g.T.Tree.dir_path l.fn.level.items
      → Covers files (λ path. is_pending (paths_of l.fn.level.items) path && not (is_pending (paths_of (into_iter_items l.folder-iterator)) path)) l.fn.found [] l.found (paths_of l.next.items);
  later : g.T.Tree.faults l.fn.tree ≤ g.T.Tree.faults l.tree;
  asked : g.T.Tree.asked l.tree ≡ g.T.Tree.asked l.fn.tree;
  files : g.T.Tree.files l.tree ≡ g.T.Tree.files l.fn.tree;
  coming : g.T.Tree.coming l.tree ≡ g.T.Tree.coming l.fn.tree;
}
