-- Why a server ends before its work is done.
use Rattle.std.specs.Prelude.{ℕ, List, [], Result, Ok, Err}
use Rattle.command_ends.specs.Ends.{limit_line}
use Rattle.command_ends.specs.declared.limit.Limit.TheVariants as told
use Rattle.folder_watch.specs.declared.scan_stop.ScanStop.{ScanStop}
use Rattle.folder_watch.specs.declared.scan_stop.ScanStop.TheVariants as scans
use Rattle.hub_editor.specs.declared.stop.EditStop.{EditStop}
use Rattle.hub_editor.specs.declared.stop.EditStop.TheVariants as edits
use Rattle.folder_edits.specs.declared.stop.Limit.{Limit}
use Rattle.folder_edits.specs.declared.stop.Limit.TheVariants as limits
use Rattle.folder_edits.specs.declared.stop.ServeStop.{ServeStop}
use Rattle.hmr_base.specs.declared.out_fault.OutFault.{OutFault}
use Rattle.hmr_base.specs.declared.out_fault.OutFault.TheVariants as outside
use Rattle.crew_plans.specs.declared.cause.Cause.{Cause}
use Rattle.crew_plans.specs.declared.cause.Cause.TheVariants as causes
use Rattle.folder_edits.specs.declared.stop.ServeStop.TheVariants.{Unwritten, Tree, Fault, NoMemory}
use Rattle.folder_edits.specs.declared.stop.ServeStop.TheVariants.{Limit as AtLimit}

-- the line for a limit
abbrev pub limit_text : Limit → List ℕ
limit_text limits.Text = limit_line told.Text
limit_text limits.Names = limit_line told.Names
limit_text limits.Sources = limit_line told.Sources
limit_text limits.Transcript = limit_line told.Transcript
limit_text limits.Passes = limit_line told.Passes

-- the stop for a scan that gave no listing
abbrev pub stop_of_scan : ScanStop → ServeStop
stop_of_scan scans.TreeFault = Tree
stop_of_scan scans.TooManyNames = AtLimit limits.Names
stop_of_scan (scans.TextTooLong name) = AtLimit limits.Text
stop_of_scan scans.NoMemory = NoMemory

-- the stop for an edit that went no further
abbrev pub stop_of_edit : EditStop → ServeStop
stop_of_edit edits.Text = AtLimit limits.Text
stop_of_edit edits.Names = AtLimit limits.Names
stop_of_edit edits.Sources = AtLimit limits.Sources
stop_of_edit edits.Full = AtLimit limits.Transcript
stop_of_edit edits.NoMemory = NoMemory

-- the stop for a net that failed
abbrev pub stop_outside : OutFault → ServeStop
stop_outside outside.Failed = Fault
stop_outside outside.NoMemory = NoMemory

-- the stop where no more jobs could be begun
abbrev pub stop_by : Cause → ServeStop
stop_by causes.Fault = Fault
stop_by causes.Spent = AtLimit limits.Passes
stop_by causes.NoMemory = NoMemory

-- the line of a limit, where the server ended by one
abbrev pub stop_text : ServeStop → List ℕ
stop_text Unwritten = []
stop_text Tree = []
stop_text Fault = []
stop_text (AtLimit limit) = limit_text limit
stop_text NoMemory = []

abbrev pub last_text : {T : Type 0} → Result T ServeStop → List ℕ
last_text (Ok done) = []
last_text (Err stop) = stop_text stop
