-- What a listing of a folder has.
use Rattle.std.specs.Prelude.{◌≡◌, ℕ, List, Bool, true, false, ◌==◌, is_some, string_bytes, All}
use Rattle.std.specs.List.{list_any}
use Rattle.folders.specs.declared.tree.Entry.{Entry}
use Rattle.folders.specs.declared.tree.Node.{Node}
use Rattle.folders.specs.declared.tree.Node.TheVariants.{Dir, File}
use Rattle.hmr_types.specs.ModName.{slash, is_text}
use Rattle.folders.specs.Files.{below, rest_after, has_file}

-- whether a name has a slash
abbrev pub has_slash : List ℕ → Bool
has_slash name = list_any (λ b. b == slash) name

module _ {D F : Type 0} (dir_path : D → List ℕ) (file_path : F → List ℕ) where
  -- the path of a folder or a file
  abbrev pub path_of : Node D F → List ℕ
  path_of (Dir dir) = dir_path dir
  path_of (File file) = file_path file

  -- whether a path is that of the file, or leads through the folder
  abbrev pub leads_to : List ℕ → Node D F → Bool
  leads_to path (Dir dir) = is_some (rest_after (dir_path dir) path)
  leads_to path (File file) = is_text path (file_path file)

  -- whether it is a folder, or a file that is there
  abbrev pub is_there : List (List ℕ × List ℕ) → Node D F → Bool
  is_there files (Dir dir) = true
  is_there files (File file) = has_file files (file_path file)

  -- the entries of a folder: each has its place and a plain name, each file is there, and each file below
  -- the folder is an entry or below one
  pub record IsListed (files : List (List ℕ × List ℕ)) (folder : List ℕ)
      (entries : List (Entry D F)) : Type 0 where
    pub placed : All (λ entry. path_of entry.node ≡ below folder (string_bytes entry.name)) entries
    pub plain : All (λ entry. has_slash (string_bytes entry.name) ≡ false) entries
    pub there : All (λ entry. is_there files entry.node ≡ true) entries
    pub whole : (name : List ℕ) → has_file files (below folder name) ≡ true
        → list_any (λ entry. leads_to (below folder name) entry.node) entries ≡ true
