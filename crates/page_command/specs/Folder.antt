-- The modules of a folder as first edits, and why the folder isn't opened.
use Rattle.std.specs.Prelude.{◌≡◌, ◌⊎◌, List, [], Option, IfSome}
use Rattle.core_model.specs.Names.{Name}
use Rattle.core_model.specs.Sources.{Text}
use Rattle.folders.specs.Files.{next_files}
use Rattle.folder_watch.specs.declared.scan_stop.ScanStop.{ScanStop}
use Rattle.folder_watch.specs.Edits.{AreEdits}
use Rattle.folder_watch.specs.Listings.{Rises}
use Rattle.folder_watch.specs.Scans.{IsScanOf, StopsFor}
use Rattle.page_command.specs.declared.stop.PageStop.{PageStop}
use Rattle.page_command.specs.Opening.{AreAccepted, Edit}
use Rattle.page_command.specs.Stops.{StopsEdits, stop_of_scan}

-- the files of a folder, or its modules, with their bytes
abbrev pub Files : Type 0
Files = List (Name × Text)

-- A scan gave a listing, and the edits are those that bring its modules, in the order of their names. Where
-- the tree tells its files, the listing has just the modules among them.
pub record AreFirst (coming : Option (List Files)) (edits : List Edit) : Type 0 where
  pub listing : Files
  pub scanned : IfSome coming (λ files. IsScanOf (next_files files) listing)
  pub edits_are : AreEdits [] listing edits
  pub rising : Rises edits

-- the first edits were made, and none of them was refused
pub record Opens (coming : Option (List Files)) (edits : List Edit) : Type 0 where
  pub first : AreFirst coming edits
  pub accepted : AreAccepted [] edits

-- the scan stopped
pub record AtScan (coming : Option (List Files)) (stop : PageStop) : Type 0 where
  pub scan : ScanStop
  pub stops : IfSome coming (λ files. StopsFor (next_files files) scan)
  pub stop_is : stop ≡ stop_of_scan scan

-- an edit stopped it
pub record AtEdits (coming : Option (List Files)) (stop : PageStop) : Type 0 where
  pub edits : List Edit
  pub first : AreFirst coming edits
  pub stops : StopsEdits edits stop

-- it stopped before the first request
abbrev pub StopsEarly : Option (List Files) → PageStop → Type 0
StopsEarly coming stop = AtScan coming stop ⊎ AtEdits coming stop
