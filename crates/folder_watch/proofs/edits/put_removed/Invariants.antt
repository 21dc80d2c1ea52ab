use Rattle.std.proofs.Common.{◌≡◌, Some}
use Rattle.std.specs.Prelude.{All}
use Rattle.folders.specs.Files.{text_at}
use Rattle.folder_watch.specs.Edits.{change, change_to, rows_of}
use Rattle.folder_watch.proofs.Editing.{IsGoing}
use Rattle.folder_watch.proofs.edits.put_removed.Given as goal

abbrev pub invariant-loop-name : goal.invariant-loop-name
invariant-loop-name l = record {
  going : IsGoing (λ name. change (text_at l.old name) (text_at l.new name)) (λ name. change_to (text_at l.old name) (text_at l.new name)) l.old l.name-iterator (rows_of l.edits.entries);
  held : All (λ row. text_at l.old row.0 ≡ Some row.1) l.old;
}
