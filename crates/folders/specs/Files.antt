-- The files of a folder: each path, from the folder on and beginning with a slash, with its bytes. Of a
-- path that stands twice the first counts.
use Rattle.std.specs.Prelude.{◌≡◌, [], ◌∷◌, ◌++◌, ◌==◌, ◌⊎◌}
use Rattle.std.specs.Prelude.{ℕ, List, Bool, false, cond, not, Option, Some, None, is_some}
use Rattle.std.specs.Map.{lookup}
use Rattle.hmr_types.specs.ModName.{slash, is_text}

-- the path of what a folder has under a name
abbrev pub below : List ℕ → List ℕ → List ℕ
below folder name = folder ++ slash ∷ name

-- what a path says after a folder and a slash, where it leads through the folder
abbrev pub rest_after : List ℕ → List ℕ → Option (List ℕ)
rest_after folder [] = None
rest_after [] (b ∷ path) = cond (b == slash) (Some path) None
rest_after (c ∷ folder) (b ∷ path) = cond (c == b) (rest_after folder path) None

-- the bytes of the file at a path
abbrev pub text_at : List (List ℕ × List ℕ) → List ℕ → Option (List ℕ)
text_at files path = lookup (is_text path) files

-- whether there is a file at a path
abbrev pub has_file : List (List ℕ × List ℕ) → List ℕ → Bool
has_file files path = is_some (text_at files path)

-- whether it is told that there is no file at a path
abbrev pub is_gone : Option (List (List ℕ × List ℕ)) → List ℕ → Bool
is_gone None path = false
is_gone (Some files) path = not (has_file files path)

-- each open names the same folder
abbrev pub MayOpen : Option (List ℕ) → List ℕ → Type 0
MayOpen asked folder = (asked ≡ None) ⊎ (asked ≡ Some folder)

-- the files at the next open; where nothing is planned there are none
abbrev pub next_files : List (List (List ℕ × List ℕ)) → List (List ℕ × List ℕ)
next_files [] = []
next_files (files ∷ later) = files

-- those at the opens after it: the last stay
abbrev pub files_after : List (List (List ℕ × List ℕ)) → List (List (List ℕ × List ℕ))
files_after [] = []
files_after (files ∷ []) = files ∷ []
files_after (files ∷ next ∷ later) = next ∷ later
