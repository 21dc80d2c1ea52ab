use Rattle.std.proofs.Common.{◌≡◌, ◌+◌, ◌≤◌, List, ℕ, Some, length}
use Rattle.std.specs.Prelude.{All, ◌&&◌, not, is_some}
use Rattle.std.specs.List.{list_any}
use Rattle.std.specs.Vec.Iter.{into_iter_items, into_iter_len}
use Rattle.folders.specs.Entries.{leads_to}
use Rattle.folders.specs.Files.{rest_after}
use Rattle.folder_watch.specs.Listings.{most_names}
use Rattle.folder_watch.specs.Pending.{AreDeep, ArePlaced, paths_of}
use Rattle.folder_watch.specs.Scans.{Covers, IsPlaced}
use Rattle.folder_watch.proofs.walk.list_folder.Given as goal

-- what the entries so far gave, and those that are left
abbrev pub invariant-loop-entry : goal.invariant-loop-entry
invariant-loop-entry g l = record {
  left : into_iter_len l.entry-iterator ≡ length (into_iter_items l.entry-iterator);
  few : length l.found ≤ most_names;
  entries : (files : List (List ℕ × List ℕ)) → g.T.Tree.files l.fn.tree ≡ Some files → g.T.Tree.dir_path l.folder.dir ≡ l.folder.path.items
      → All (λ entry. IsPlaced g.T.Tree.dir_path g.T.Tree.file_path files l.folder.path.items entry) (into_iter_items l.entry-iterator);
  deeper : (depth : ℕ) → depth ≤ length l.folder.path.items → AreDeep (depth + 1) l.fn.next.items → AreDeep (depth + 1) l.next.items;
  placed : (files : List (List ℕ × List ℕ)) → g.T.Tree.files l.fn.tree ≡ Some files → g.T.Tree.dir_path l.folder.dir ≡ l.folder.path.items
      → ArePlaced g.T.Tree.dir_path l.fn.next.items → ArePlaced g.T.Tree.dir_path l.next.items;
  covers : (files : List (List ℕ × List ℕ)) → g.T.Tree.files l.fn.tree ≡ Some files → g.T.Tree.dir_path l.folder.dir ≡ l.folder.path.items
      → Covers files (λ path. is_some (rest_after l.folder.path.items path) && not (list_any (λ entry. leads_to g.T.Tree.dir_path g.T.Tree.file_path path entry.node) (into_iter_items l.entry-iterator)))
      l.fn.found (paths_of l.fn.next.items) l.found (paths_of l.next.items);
  later : g.T.Tree.faults l.fn.tree ≤ g.T.Tree.faults l.tree;
  asked : g.T.Tree.asked l.tree ≡ g.T.Tree.asked l.fn.tree;
  files : g.T.Tree.files l.tree ≡ g.T.Tree.files l.fn.tree;
  coming : g.T.Tree.coming l.tree ≡ g.T.Tree.coming l.fn.tree;
}
