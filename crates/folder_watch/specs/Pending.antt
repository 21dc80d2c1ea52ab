-- The folders that are still to be listed.
use Rattle.std.specs.Prelude.{◌≡◌, ℕ, List, [], ◌∷◌, ◌++◌, Bool, true, false, map, length, ◌≤◌, All}
use Rattle.folder_watch.specs.declared.folder.Folder.{Folder}

-- their paths
abbrev pub paths_of : {D : Type 0} → List (Folder D) → List (List ℕ)
paths_of folders = map (λ folder. folder.path.items) folders

-- each is where its path says
abbrev pub ArePlaced : {D : Type 0} → (D → List ℕ) → List (Folder D) → Type 0
ArePlaced dir_path folders = All (λ folder. dir_path folder.dir ≡ folder.path.items) folders

-- each path has this many bytes, or more
abbrev pub AreDeep : {D : Type 0} → ℕ → List (Folder D) → Type 0
AreDeep depth folders = All (λ folder. depth ≤ length folder.path.items) folders

-- one folder more
pub record Adds {D : Type 0} (path : List ℕ) (dir : D) (old new : List (Folder D)) : Type 0 where
  pub folder : Folder D
  pub whole : new ≡ old ++ folder ∷ []
  pub path_is : folder.path.items ≡ path
  pub dir_is : folder.dir ≡ dir

-- one folder more, or none
abbrev pub AddsIf : {D : Type 0} → Bool → List ℕ → D → List (Folder D) → List (Folder D) → Type 0
AddsIf true path dir old new = Adds path dir old new
AddsIf false path dir old new = new ≡ old
