-- What the tree in memory holds.
use Rattle.std.specs.Prelude.{◌≡◌, ℕ, List, [], map, Bool, true, false, ◌∷◌, ◌++◌, string_bytes, ⊤}
use Rattle.folders.specs.declared.tree.Entry.{Entry}
use Rattle.folders.specs.declared.tree.Node.{Node}
use Rattle.folders.specs.declared.tree.Node.TheVariants.{Dir, File}
use Rattle.folders.specs.declared.mem_tree.MemDir.{MemDir}
use Rattle.folders.specs.declared.mem_tree.MemPlace.{MemPlace}
use Rattle.folders.specs.declared.mem_tree.MemFile.{MemFile}
use Rattle.folders.specs.declared.mem_tree.MemTree.{MemTree}
use Rattle.folders.specs.Entries.{IsListed, has_slash, leads_to, path_of}
use Rattle.folders.specs.Files.{below, next_files, files_after}

-- a path and its bytes
abbrev pub told_file : MemFile → List ℕ × List ℕ
told_file file = (string_bytes file.path, file.text.items)

-- the files at each open from the one on that is first of those held
abbrev pub held_by : MemTree → List (List (List ℕ × List ℕ))
held_by tree = map (λ files. map told_file files.items) tree.folders.items

-- the files of the folder, where the first of those held is open or still to come
abbrev pub open_files : Bool → List (List (List ℕ × List ℕ)) → List (List ℕ × List ℕ)
open_files false held = []
open_files true held = next_files held

-- the files at the opens to come
abbrev pub files_to_come : Bool → List (List (List ℕ × List ℕ)) → List (List (List ℕ × List ℕ))
files_to_come false held = held
files_to_come true held = files_after held

-- the path of a folder
abbrev pub dir_path_of : MemDir → List ℕ
dir_path_of dir = string_bytes dir.path

-- the path of a file
abbrev pub file_path_of : MemPlace → List ℕ
file_path_of place = string_bytes place.path

-- it is a folder, and this holds of it
abbrev pub IfDir : {D F : Type 0} → (D → Type 0) → Node D F → Type 0
IfDir P (Dir dir) = P dir
IfDir P (File file) = ⊥

-- it is a file, and this holds of it
abbrev pub IfFile : {D F : Type 0} → (F → Type 0) → Node D F → Type 0
IfFile P (Dir dir) = ⊥
IfFile P (File file) = P file

-- a file is at this path and no other
abbrev pub IsAt : List ℕ → Node MemDir MemPlace → Type 0
IsAt path (Dir dir) = ⊤
IsAt path (File place) = file_path_of place ≡ path

-- the entry of a folder that a path goes by
pub record IsEntryFor (folder path : List ℕ) (entry : Entry MemDir MemPlace) : Type 0 where
  pub placed : path_of dir_path_of file_path_of entry.node ≡ below folder (string_bytes entry.name)
  pub plain : has_slash (string_bytes entry.name) ≡ false
  pub leads : leads_to dir_path_of file_path_of path entry.node ≡ true
  pub at : IsAt path entry.node

-- what is listed of some files becomes what is listed of these and one at the path
abbrev pub IsOneMore : List ℕ → List ℕ → List (Entry MemDir MemPlace) → List (Entry MemDir MemPlace) → Type 0
IsOneMore folder path old new = (files : List (List ℕ × List ℕ)) (text : List ℕ)
    → IsListed dir_path_of file_path_of files folder old
    → IsListed dir_path_of file_path_of (files ++ (path, text) ∷ []) folder new
