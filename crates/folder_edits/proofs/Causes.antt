-- Why a server stops, and that what it has seen then stays there.
use Rattle.std.proofs.Common.{◌≡◌, ◌≢◌, ◌≤◌, ◌+◌, ℕ, zero, suc, add-one, true, List, [], refl, ap, sym, ◌∙◌, subst, inl, inr, ◌⊎◌, arith}
use Rattle.std.specs.Prelude.{Option, Some, None, Result, Ok, Err, IfErr}
use Rattle.std.specs.Option.{option_map}
use Rattle.hmr_base.specs.Causes.{Rose}
use Rattle.folders.specs.Files.{files_after}
use Rattle.folder_watch.specs.declared.scan_stop.ScanStop.{ScanStop}
use Rattle.folder_watch.specs.declared.scan_stop.ScanStop.TheVariants as scans
use Rattle.core_model.specs.Transcript.{Recorded}
use Rattle.hmr_hub.specs.declared.pass.Pass.{Pass}
use Rattle.hmr_hub.specs.Passes.{all_given, seen_of}
use Rattle.hmr_hub.specs.Moves.{Moved}
use Rattle.hmr_hub.proofs.Fullness.{nearly_full_moved}
use Rattle.hub_editor.specs.Causes as editing
use Rattle.hub_editor.specs.declared.stop.EditStop.{EditStop}
use Rattle.hub_editor.specs.declared.stop.EditStop.TheVariants as edits
use Rattle.crew_plans.specs.declared.cause.Cause.{Cause}
use Rattle.crew_plans.specs.declared.cause.Cause.TheVariants as causes
use Rattle.folder_edits.specs.declared.stop.Limit.{Limit}
use Rattle.folder_edits.specs.declared.stop.Limit.TheVariants as limits
use Rattle.folder_edits.specs.declared.stop.ServeStop.{ServeStop}
use Rattle.folder_edits.specs.declared.stop.ServeStop.TheVariants.{Unwritten, Tree, Fault, NoMemory}
use Rattle.folder_edits.specs.declared.stop.ServeStop.TheVariants.{Limit as AtLimit}
use Rattle.folder_edits.specs.Causes.{IsCause, IsEditCause, IsFirstCause, IsLimitCause, IsSettleCause, IsWorkCause}
use Rattle.folder_edits.specs.Openings.{BeginsFirst}
use Rattle.folder_edits.specs.Rounds.{Files, ScanStops, after_scans}
use Rattle.folder_edits.specs.Stops.{stop_by, stop_of_edit, stop_of_scan}

-- the files to come after one scan more
scans_suc : (n : ℕ) (coming : List Files) → files_after (after_scans n coming) ≡ after_scans (suc n) coming
scans_suc zero coming = refl
scans_suc (suc n) coming = scans_suc n (files_after coming)

scans_more : (n : ℕ) (coming : List Files) → files_after (after_scans n coming) ≡ after_scans (n + 1) coming
scans_more n coming = scans_suc n coming ∙ ap (λ k. after_scans k coming) (sym (add-one n))

pub came_more : (n : ℕ) (coming now then : Option (List Files)) → now ≡ option_map (after_scans n) coming → then ≡ option_map files_after now → then ≡ option_map (after_scans (n + 1)) coming
came_more n None now then e f = f ∙ ap (option_map files_after) e
came_more n (Some coming) now then e f = f ∙ (ap (option_map files_after) e ∙ ap Some (scans_more n coming))

pub came_none : (coming : Option (List Files)) → coming ≡ option_map (after_scans 0) coming
came_none None = refl
came_none (Some coming) = refl

-- the first scan stopped
pub first_scan : (coming : Option (List Files)) (p : Pass) (stop : ScanStop) → seen_of p ≡ [] → ScanStops coming 0 stop → IsFirstCause coming p (stop_of_scan stop)
first_scan coming p scans.TreeFault fresh h = fresh
first_scan coming p scans.TooManyNames fresh h = inl (fresh, h)
first_scan coming p (scans.TextTooLong path) fresh h = inl (fresh, (path, h))
first_scan coming p scans.NoMemory fresh h = tt

-- or one of its edits
pub first_edit : (coming : Option (List Files)) (p : Pass) (stop : EditStop) → BeginsFirst coming p stop → editing.IsCause p stop → IsFirstCause coming p (stop_of_edit stop)
first_edit coming p edits.Text b h = inr (b, h)
first_edit coming p edits.Names b h = inr (b, h)
first_edit coming p edits.Sources b h = (b, h)
first_edit coming p edits.Full b h = (b, h)
first_edit coming p edits.NoMemory b h = tt

pub first_written : (coming : Option (List Files)) (p : Pass) (stop : ServeStop) → IsFirstCause coming p stop → stop ≢ Unwritten
first_written coming p Unwritten h = λ e. h
first_written coming p Tree h = λ e. cc
first_written coming p Fault h = λ e. cc
first_written coming p (AtLimit limit) h = λ e. cc
first_written coming p NoMemory h = λ e. cc

pub first_faultless : (coming : Option (List Files)) (p : Pass) (stop : ServeStop) → IsFirstCause coming p stop → stop ≢ Fault
first_faultless coming p Unwritten h = λ e. cc
first_faultless coming p Tree h = λ e. cc
first_faultless coming p Fault h = λ e. h
first_faultless coming p (AtLimit limit) h = λ e. cc
first_faultless coming p NoMemory h = λ e. cc

pub scan_cause : (p : Pass) (stop : ScanStop) → IsEditCause p (stop_of_scan stop)
scan_cause p scans.TreeFault = tt
scan_cause p scans.TooManyNames = tt
scan_cause p (scans.TextTooLong path) = tt
scan_cause p scans.NoMemory = tt

pub edit_cause : (p : Pass) (stop : EditStop) → editing.IsCause p stop → IsEditCause p (stop_of_edit stop)
edit_cause p edits.Text h = tt
edit_cause p edits.Names h = tt
edit_cause p edits.Sources h = tt
edit_cause p edits.Full h = h
edit_cause p edits.NoMemory h = tt

pub settle_cause : (p : Pass) (stop : EditStop) → editing.IsRoomStop stop → editing.IsCause p stop → IsSettleCause p (stop_of_edit stop)
settle_cause p edits.Text r h = absurd r
settle_cause p edits.Names r h = absurd r
settle_cause p edits.Sources r h = absurd r
settle_cause p edits.Full r h = h
settle_cause p edits.NoMemory r h = tt

-- only a scan stops by the tree
pub scan_rose : (stop : ScanStop) (n m k : ℕ) → n ≤ m → (stop ≡ scans.TreeFault → Rose m k) → stop_of_scan stop ≡ Tree → Rose n k
scan_rose scans.TreeFault n m k later h e = let r = h refl in omega (arith, later, r)
scan_rose scans.TooManyNames n m k later h e = absurd (cc)
scan_rose (scans.TextTooLong path) n m k later h e = absurd (cc)
scan_rose scans.NoMemory n m k later h e = absurd (cc)

pub edit_no_tree : (stop : EditStop) → stop_of_edit stop ≢ Tree
edit_no_tree edits.Text = λ e. cc
edit_no_tree edits.Names = λ e. cc
edit_no_tree edits.Sources = λ e. cc
edit_no_tree edits.Full = λ e. cc
edit_no_tree edits.NoMemory = λ e. cc

pub edit_no_fault : (stop : EditStop) → stop_of_edit stop ≢ Fault
edit_no_fault edits.Text = λ e. cc
edit_no_fault edits.Names = λ e. cc
edit_no_fault edits.Sources = λ e. cc
edit_no_fault edits.Full = λ e. cc
edit_no_fault edits.NoMemory = λ e. cc

-- what stops the editing stops the work
pub edit_work : (p : Pass) (stop : ServeStop) → IsEditCause p stop → IsWorkCause p stop
edit_work p Unwritten h = h
edit_work p Tree h = tt
edit_work p Fault h = tt
edit_work p (AtLimit limits.Text) h = tt
edit_work p (AtLimit limits.Names) h = tt
edit_work p (AtLimit limits.Sources) h = tt
edit_work p (AtLimit limits.Transcript) h = h
edit_work p (AtLimit limits.Passes) h = absurd h
edit_work p NoMemory h = tt

pub settle_work : (p : Pass) (stop : ServeStop) → IsSettleCause p stop → IsWorkCause p stop
settle_work p Unwritten h = h
settle_work p Tree h = tt
settle_work p Fault h = tt
settle_work p (AtLimit limits.Text) h = tt
settle_work p (AtLimit limits.Names) h = tt
settle_work p (AtLimit limits.Sources) h = tt
settle_work p (AtLimit limits.Transcript) h = h
settle_work p (AtLimit limits.Passes) h = absurd h
settle_work p NoMemory h = tt

pub begun_work : (p : Pass) (cause : Cause) → (cause ≡ causes.Spent → all_given p ≡ true) → IsWorkCause p (stop_by cause)
begun_work p causes.Fault h = tt
begun_work p causes.Spent h = h refl
begun_work p causes.NoMemory h = tt

pub begun_fault : (cause : Cause) → stop_by cause ≡ Fault → cause ≡ causes.Fault
begun_fault causes.Fault e = refl
begun_fault causes.Spent e = absurd (cc)
begun_fault causes.NoMemory e = absurd (cc)

pub begun_no_tree : (cause : Cause) → stop_by cause ≢ Tree
begun_no_tree causes.Fault = λ e. cc
begun_no_tree causes.Spent = λ e. cc
begun_no_tree causes.NoMemory = λ e. cc

-- what was seen stays
limit_moved : (p q : Pass) (mine : List Recorded) (limit : Limit) → Moved p q mine → (all_given p ≡ true → all_given q ≡ true) → IsLimitCause p limit → IsLimitCause q limit
limit_moved p q mine limits.Text m given h = tt
limit_moved p q mine limits.Names m given h = tt
limit_moved p q mine limits.Sources m given h = tt
limit_moved p q mine limits.Transcript m given h = nearly_full_moved p q mine m h
limit_moved p q mine limits.Passes m given h = given h

-- at the end of the work
pub work_cause : (p q : Pass) (stop : ServeStop) → Moved p q [] → (all_given p ≡ true → all_given q ≡ true) → IsWorkCause p stop → IsCause q stop
work_cause p q Unwritten m given h = tt
work_cause p q Tree m given h = tt
work_cause p q Fault m given h = tt
work_cause p q (AtLimit limit) m given h = limit_moved p q [] limit m given h
work_cause p q NoMemory m given h = tt

pub edit_faultless : (p : Pass) (stop : ServeStop) → IsEditCause p stop → stop ≢ Fault
edit_faultless p Unwritten h = λ e. cc
edit_faultless p Tree h = λ e. cc
edit_faultless p Fault h = λ e. h
edit_faultless p (AtLimit limit) h = λ e. cc
edit_faultless p NoMemory h = λ e. cc

pub work_written : (p : Pass) (stop : ServeStop) → IsWorkCause p stop → stop ≢ Unwritten
work_written p Unwritten h = λ e. h
work_written p Tree h = λ e. cc
work_written p Fault h = λ e. cc
work_written p (AtLimit limit) h = λ e. cc
work_written p NoMemory h = λ e. cc

-- counts
pub rose_later : (n m k l : ℕ) → n ≤ m → k ≤ l → Rose m k → Rose n l
rose_later n m k l a b r = omega (arith, a, b, r)

pub either_later : (n m k p q r : ℕ) → n ≤ m → q ≤ r → Rose m k ⊎ Rose p q → Rose n k ⊎ Rose p r
either_later n m k p q r a b (inl x) = inl (omega (arith, a, x))
either_later n m k p q r a b (inr x) = inr (omega (arith, b, x))

-- a stop that a `?` passes on
abbrev pub Passes : {T : Type 0} → Result T ServeStop → ServeStop → Type 0
Passes r stop = (y : ServeStop) × (r ≡ Err y) × (y ≡ stop)

pub passed : {T : Type 0} (P : ServeStop → Type 0) (r : Result T ServeStop) (stop : ServeStop) → Passes r stop → P stop → IfErr r P
passed P r stop told h = subst (λ x. IfErr x P) (sym (told.1 ∙ ap Err told.2)) h

-- an end has one stop
pub err_is : {T : Type 0} (r : Result T ServeStop) (stop other : ServeStop) → r ≡ Err stop → r ≡ Err other → stop ≡ other
err_is r stop other e f = cc

passed_as : {T : Type 0} (r : Result T ServeStop) (stop other : ServeStop) → Passes r stop → r ≡ Err other → stop ≡ other
passed_as r stop other told e = sym told.2 ∙ err_is r told.0 other told.1 e

pub tree_of_scan : {T : Type 0} (r : Result T ServeStop) (stop : ScanStop) (n m k : ℕ) → Passes r (stop_of_scan stop) → n ≤ m → (stop ≡ scans.TreeFault → Rose m k) → r ≡ Err Tree → Rose n k
tree_of_scan r stop n m k told later h e = scan_rose stop n m k later h (passed_as r (stop_of_scan stop) Tree told e)

pub tree_of_edit : {T : Type 0} {A : Type 0} (r : Result T ServeStop) (stop : EditStop) → Passes r (stop_of_edit stop) → r ≡ Err Tree → A
tree_of_edit r stop told e = absurd (edit_no_tree stop (passed_as r (stop_of_edit stop) Tree told e))

pub fault_of_edit : {T : Type 0} {A : Type 0} (r : Result T ServeStop) (stop : EditStop) → Passes r (stop_of_edit stop) → r ≡ Err Fault → A
fault_of_edit r stop told e = absurd (edit_no_fault stop (passed_as r (stop_of_edit stop) Fault told e))

pub tree_of_begun : {T : Type 0} {A : Type 0} (r : Result T ServeStop) (cause : Cause) → Passes r (stop_by cause) → r ≡ Err Tree → A
tree_of_begun r cause told e = absurd (begun_no_tree cause (passed_as r (stop_by cause) Tree told e))

pub fault_of_begun : {T : Type 0} (r : Result T ServeStop) (cause : Cause) → Passes r (stop_by cause) → r ≡ Err Fault → cause ≡ causes.Fault
fault_of_begun r cause told e = begun_fault cause (passed_as r (stop_by cause) Fault told e)

-- none of the causes of the editing is a fault of the net
pub no_fault : (p : Pass) (r : Result (Unit {0}) ServeStop) → IfErr r (IsEditCause p) → r ≢ Err Fault
no_fault p (Ok x) h = λ e. cc
no_fault p (Err stop) h = λ e. edit_faultless p stop h (err_is (Err stop) stop Fault refl e)

pub edits_work : (p : Pass) (r : Result (Unit {0}) ServeStop) → IfErr r (IsEditCause p) → IfErr r (IsWorkCause p)
edits_work p (Ok x) h = tt
edits_work p (Err stop) h = edit_work p stop h
