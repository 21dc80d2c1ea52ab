-- What a scan gives, and why it stops.
use Rattle.std.specs.Prelude.{◌≡◌, ◌<◌, ◌||◌, ⊤}
use Rattle.std.specs.Prelude.{ℕ, List, length, Bool, true, false, Some, is_some, string_bytes}
use Rattle.std.specs.List.{list_any}
use Rattle.folders.specs.declared.tree.Entry.{Entry}
use Rattle.folders.specs.Entries.{has_slash, is_there, path_of}
use Rattle.folders.specs.Files.{below, has_file, rest_after, text_at}
use Rattle.hmr_base.specs.declared.out_fault.OutFault.{OutFault}
use Rattle.hmr_base.specs.declared.out_fault.OutFault.TheVariants.{Failed}
use Rattle.hmr_base.specs.declared.out_fault.OutFault.TheVariants as Faults
use Rattle.folder_watch.specs.declared.scan_stop.ScanStop.{ScanStop}
use Rattle.folder_watch.specs.declared.scan_stop.ScanStop.TheVariants.{TreeFault, TooManyNames}
use Rattle.folder_watch.specs.declared.scan_stop.ScanStop.TheVariants.{TextTooLong, NoMemory}
use Rattle.folder_watch.specs.Watched.{is_watched, watched_text}
use Rattle.folder_watch.specs.Listings.{Rises, most_names, text_bytes}

-- what a fault of the tree stops a scan by
abbrev pub stop_of : OutFault → ScanStop
stop_of Failed = TreeFault
stop_of Faults.NoMemory = NoMemory

-- each text is that of a module among the files
abbrev pub AreOf : List (List ℕ × List ℕ) → List (List ℕ × List ℕ) → Type 0
AreOf files listing = (path text : List ℕ) → text_at listing path ≡ Some text
    → watched_text files path ≡ Some text

-- the listing has exactly the modules among the files, with their bytes
abbrev pub IsScanOf : List (List ℕ × List ℕ) → List (List ℕ × List ℕ) → Type 0
IsScanOf files listing = (path : List ℕ) → text_at listing path ≡ watched_text files path

-- more modules stand among the files than a listing may have
pub record AreTooMany (files : List (List ℕ × List ℕ)) : Type 0 where
  pub modules : List (List ℕ × List ℕ)
  pub rise : Rises modules
  pub are : AreOf files modules
  pub many : most_names < length modules

-- the text of this module among the files is over the limit
pub record IsTooLong (files : List (List ℕ × List ℕ)) (path : List ℕ) : Type 0 where
  pub text : List ℕ
  pub is : watched_text files path ≡ Some text
  pub long : text_bytes < length text

-- why a scan of these files stops
abbrev pub StopsFor : List (List ℕ × List ℕ) → ScanStop → Type 0
StopsFor files TreeFault = ⊤
StopsFor files TooManyNames = AreTooMany files
StopsFor files (TextTooLong path) = IsTooLong files path
StopsFor files NoMemory = ⊤

-- whether a path leads through one of these folders
abbrev pub is_pending : List (List ℕ) → List ℕ → Bool
is_pending folders path = list_any (λ folder. is_some (rest_after folder path)) folders

-- the modules among the files at some paths are found, or are below folders that are still to be listed;
-- what was found and what was to be listed stay
pub record Covers (files : List (List ℕ × List ℕ)) (these : List ℕ → Bool) (old : List (List ℕ × List ℕ))
    (was : List (List ℕ)) (new : List (List ℕ × List ℕ)) (now : List (List ℕ)) : Type 0 where
  pub are : AreOf files old → AreOf files new
  pub found : (path : List ℕ) → has_file old path ≡ true → has_file new path ≡ true
  pub pending : (path : List ℕ) → is_pending was path ≡ true → is_pending now path ≡ true
  pub covers : (path : List ℕ) → is_watched path ≡ true → has_file files path ≡ true → these path ≡ true
      → (has_file new path || is_pending now path) ≡ true

-- an entry of a folder stands where its name says, and where it is a file it is there
pub record IsPlaced {D F : Type 0} (dir_path : D → List ℕ) (file_path : F → List ℕ)
    (files : List (List ℕ × List ℕ)) (folder : List ℕ) (entry : Entry D F) : Type 0 where
  pub placed : path_of dir_path file_path entry.node ≡ below folder (string_bytes entry.name)
  pub plain : has_slash (string_bytes entry.name) ≡ false
  pub there : is_there dir_path file_path files entry.node ≡ true

-- of a file that is there, on a path of folders that are looked into: what was found stays, and it is found
-- where it is a module
pub record Takes (files : List (List ℕ × List ℕ)) (path : List ℕ)
    (old new : List (List ℕ × List ℕ)) : Type 0 where
  pub are : AreOf files old → AreOf files new
  pub found : (other : List ℕ) → has_file old other ≡ true → has_file new other ≡ true
  pub taken : is_watched path ≡ true → has_file new path ≡ true

-- each module is in one of these folders, or below it
abbrev pub IsRoot : List (List ℕ) → Type 0
IsRoot folders = (path : List ℕ) → is_watched path ≡ true → is_pending folders path ≡ true

-- the modules among the files at some paths are found, or are below folders that are still to be listed
pub record Reaches (files : List (List ℕ × List ℕ)) (these : List ℕ → Bool) (found : List (List ℕ × List ℕ))
    (pending : List (List ℕ)) : Type 0 where
  pub are : AreOf files found
  pub covers : (path : List ℕ) → is_watched path ≡ true → has_file files path ≡ true → these path ≡ true
      → (has_file found path || is_pending pending path) ≡ true
