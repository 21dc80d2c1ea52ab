-- Why the command stops, and the line that it writes then.
use Rattle.std.specs.Prelude.{◌≡◌, ◌⊎◌, ◌<◌, ⊤, ℕ, List, [], ◌∷◌, ◌++◌, length}
use Rattle.std.specs.Prelude.{Result, Ok, Err}
use Prim.{⊥}
use Rattle.command_ends.specs.Ends.{limit_line}
use Rattle.command_ends.specs.declared.limit.Limit.TheVariants as limits
use Rattle.hmr_types.specs.declared.limits.TheConstants.{SOURCE_NAMES}
use Rattle.hmr_types.specs.declared.words.EditRefusal.{EditRefusal}
use Rattle.hmr_types.specs.declared.words.EditRefusal.TheVariants.{TextTooLong, TooManyNames, SourceTotal}
use Rattle.core_model.specs.Sources.{EditAnswer, edit_answer, edit_refused, sources_after}
use Rattle.folder_watch.specs.declared.scan_stop.ScanStop.{ScanStop}
use Rattle.folder_watch.specs.declared.scan_stop.ScanStop.TheVariants as scans
use Rattle.page_command.specs.declared.stop.PageStop.{PageStop}
use Rattle.page_command.specs.declared.stop.PageStop.TheVariants.{Unread, Unwritten, Tree, NoMemory}
use Rattle.page_command.specs.declared.stop.PageStop.TheVariants.{Limit as AtLimit}
use Rattle.page_command.specs.Opening.{AreAccepted, Edit, opened}

-- the line of a limit, where it ended by one
abbrev pub stop_text : PageStop → List ℕ
stop_text Unread = []
stop_text Unwritten = []
stop_text Tree = []
stop_text (AtLimit limit) = limit_line limit
stop_text NoMemory = []

abbrev pub last_text : Result ⊤ PageStop → List ℕ
last_text (Ok done) = []
last_text (Err stop) = stop_text stop

-- the stop for a scan that gave no listing
abbrev pub stop_of_scan : ScanStop → PageStop
stop_of_scan scans.TreeFault = Tree
stop_of_scan scans.TooManyNames = AtLimit limits.Names
stop_of_scan (scans.TextTooLong name) = AtLimit limits.Text
stop_of_scan scans.NoMemory = NoMemory

-- the stop at an edit that is answered so
abbrev pub IsEditStop : EditAnswer → PageStop → Type 0
IsEditStop answer Unread = ⊥
IsEditStop answer Unwritten = ⊥
IsEditStop answer Tree = ⊥
IsEditStop answer (AtLimit limits.Text) = answer ≡ edit_refused TextTooLong
IsEditStop answer (AtLimit limits.Names) = answer ≡ edit_refused TooManyNames
IsEditStop answer (AtLimit limits.Sources) = answer ≡ edit_refused SourceTotal
IsEditStop answer (AtLimit limits.Script) = ⊥
IsEditStop answer (AtLimit limits.Record) = ⊥
IsEditStop answer (AtLimit limits.Instances) = ⊥
IsEditStop answer (AtLimit limits.Transcript) = ⊥
IsEditStop answer (AtLimit limits.Passes) = ⊥
IsEditStop answer (AtLimit limits.Turns) = ⊥
IsEditStop answer NoMemory = ⊤

-- one of the edits is refused so, and none before it is
pub record HasRefused (refusal : EditRefusal) (edits : List Edit) : Type 0 where
  pub before : List Edit
  pub edit : Edit
  pub behind : List Edit
  pub whole : before ++ edit ∷ behind ≡ edits
  pub accepted : AreAccepted [] before
  pub refused : edit_answer (sources_after (opened [] before)) edit.0 edit.1 ≡ edit_refused refusal

-- where the edits stop so; there may be more than the names may be
abbrev pub StopsEdits : List Edit → PageStop → Type 0
StopsEdits edits Unread = ⊥
StopsEdits edits Unwritten = ⊥
StopsEdits edits Tree = ⊥
StopsEdits edits (AtLimit limits.Text) = HasRefused TextTooLong edits
StopsEdits edits (AtLimit limits.Names) = HasRefused TooManyNames edits ⊎ (SOURCE_NAMES < length edits)
StopsEdits edits (AtLimit limits.Sources) = HasRefused SourceTotal edits
StopsEdits edits (AtLimit limits.Script) = ⊥
StopsEdits edits (AtLimit limits.Record) = ⊥
StopsEdits edits (AtLimit limits.Instances) = ⊥
StopsEdits edits (AtLimit limits.Transcript) = ⊥
StopsEdits edits (AtLimit limits.Passes) = ⊥
StopsEdits edits (AtLimit limits.Turns) = ⊥
StopsEdits edits NoMemory = ⊤
