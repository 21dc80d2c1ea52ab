-- The edits between scans of a folder, one after another, and behind them those of a script.
use Rattle.std.specs.Prelude.{◌≡◌, ◌≤◌, ◌<◌, ◌⊎◌, ⊤, [], ◌∷◌, ◌++◌}
use Rattle.std.specs.Prelude.{ℕ, zero, suc, true, List, length, map, flat_map, All, is_ok}
use Rattle.std.specs.Prelude.{Option, Some, None, Result, Ok, Err, IfSome}
use Rattle.std.specs.Option.{option_map}
use Prim.{⊥}
use Rattle.hmr_types.specs.declared.words.EditRefusal.{EditRefusal}
use Rattle.hmr_types.specs.declared.words.EditRefusal.TheVariants.{TextTooLong, TooManyNames, SourceTotal}
use Rattle.folders.specs.Files.{files_after, next_files}
use Rattle.folder_watch.specs.declared.scan_stop.ScanStop.{ScanStop}
use Rattle.folder_watch.specs.declared.scan_stop.ScanStop.TheVariants as scans
use Rattle.folder_watch.specs.Edits.{AreEdits}
use Rattle.folder_watch.specs.Listings.{Rises}
use Rattle.folder_watch.specs.Scans.{IsScanOf, StopsFor}
use Rattle.hub_editor.specs.declared.stop.EditStop.{EditStop}
use Rattle.hub_editor.specs.declared.stop.EditStop.TheVariants as edit_stops
use Rattle.hub_editor.specs.Edits.{Answer, Edit, Made, answered_edit}
use Rattle.folder_edits.specs.declared.stop.Limit.TheVariants as limits
use Rattle.folder_edits.specs.declared.stop.ServeStop.{ServeStop}
use Rattle.folder_edits.specs.declared.stop.ServeStop.TheVariants.{Unwritten, Tree, Fault, NoMemory}
use Rattle.folder_edits.specs.declared.stop.ServeStop.TheVariants.{Limit as AtLimit}

-- the modules of a folder with their texts, or the files of one with their bytes
abbrev pub Files : Type 0
Files = List (List ℕ × List ℕ)

-- The edits of one round: those that turn the modules of the listing before into those of the next scan, in
-- the order of their names. Where the tree tells its files, that scan has just the modules among them.
pub record IsRound (coming : Option (List Files)) (old new : Files) (edits : List Edit) : Type 0 where
  pub scanned : IfSome coming (λ files. IsScanOf (next_files files) new)
  pub edits_are : AreEdits old new edits
  pub rising : Rises edits

-- rounds one after another, from a listing on
abbrev pub AreRounds : Option (List Files) → Files → List (List Edit) → Type 0
AreRounds coming old [] = ⊤
AreRounds coming old (edits ∷ rounds) =
    (new : Files) × IsRound coming old new edits × AreRounds (option_map files_after coming) new rounds

-- all edits of some rounds
abbrev pub edits_of : List (List Edit) → List Edit
edits_of rounds = flat_map (λ edits. edits) rounds

-- the files to come after so many scans
abbrev pub after_scans : ℕ → List Files → List Files
after_scans zero coming = coming
after_scans (suc n) coming = after_scans n (files_after coming)

-- the scan after so many others stops so; where the tree tells its files, it is by the files of that scan
abbrev pub ScanStops : Option (List Files) → ℕ → ScanStop → Type 0
ScanStops None before stop = ⊤
ScanStops (Some coming) before stop = StopsFor (next_files (after_scans before coming)) stop

-- an edit with what was answered to it
abbrev pub Reply : Type 0
Reply = Edit × Answer

-- the edits that were told
abbrev pub told : List Reply → List Edit
told replies = map (λ r. r.0) replies

-- Of these edits a front was made, each once and in order. Each was accepted; then one may have been refused,
-- which is the last.
pub record MakesFront (edits : List Edit) (before now : List Made) : Type 0 where
  pub accepted : List Reply
  pub refused : List Reply
  pub rest : List Edit
  pub made : map answered_edit now ≡ map answered_edit before ++ (accepted ++ refused)
  pub each : All (λ r. is_ok r.1 ≡ true) accepted
  pub front : told (accepted ++ refused) ++ rest ≡ edits

-- one edit was refused so
abbrev pub IsRefused : EditRefusal → List Reply → Type 0
IsRefused refusal refused = (e : Edit) × (refused ≡ (e, Err refusal) ∷ [])

-- at which edit it stopped: at one that was refused, or at none that was
abbrev pub StopsEdits : List Reply → EditStop → Type 0
StopsEdits refused edit_stops.Text = IsRefused TextTooLong refused
StopsEdits refused edit_stops.Names = IsRefused TooManyNames refused
StopsEdits refused edit_stops.Sources = IsRefused SourceTotal refused
StopsEdits refused edit_stops.Full = refused ≡ []
StopsEdits refused edit_stops.NoMemory = refused ≡ []

abbrev pub EndsEdits : List Reply → List Edit → Result (Unit {0}) EditStop → Type 0
EndsEdits refused rest (Ok done) = (refused ≡ []) × (rest ≡ [])
EndsEdits refused rest (Err stop) = StopsEdits refused stop

-- edits one after another: all, or a front up to the first stop
pub record MakesEach (edits : List Edit) (before now : List Made) (result : Result (Unit {0}) EditStop)
    : Type 0 where
  pub makes : MakesFront edits before now
  pub end : EndsEdits makes.refused makes.rest result

-- The next scan stopped so, when all edits of the rounds before it were made. Not so many scans were read as
-- there are rounds to make.
pub record AtScan (coming : Option (List Files)) (many read : ℕ) (refused : List Reply) (rest : List Edit)
    (stop : ScanStop) : Type 0 where
  pub fewer : read < many
  pub unrefused : refused ≡ []
  pub all : rest ≡ []
  pub stops : ScanStops coming read stop

-- nothing was scanned, and no edit made
pub record AtBeginning (read : ℕ) (accepted refused : List Reply) : Type 0 where
  pub unread : read ≡ 0
  pub none : accepted ≡ []
  pub unrefused : refused ≡ []

-- Where later edits stopped, by the stop. A text over the limit and one name too many stop a scan or are
-- refused; the sum of the texts is refused; what can't be begun stops them before the first.
abbrev pub StopsAt : Option (List Files) → ℕ → ℕ → List Reply → List Reply → List Edit → ServeStop → Type 0
StopsAt coming many read accepted refused rest Unwritten = ⊥
StopsAt coming many read accepted refused rest Tree = AtScan coming many read refused rest scans.TreeFault
StopsAt coming many read accepted refused rest Fault = AtBeginning read accepted refused
StopsAt coming many read accepted refused rest (AtLimit limits.Text) =
    ((path : List ℕ) × AtScan coming many read refused rest (scans.TextTooLong path))
    ⊎ IsRefused TextTooLong refused
StopsAt coming many read accepted refused rest (AtLimit limits.Names) =
    AtScan coming many read refused rest scans.TooManyNames ⊎ IsRefused TooManyNames refused
StopsAt coming many read accepted refused rest (AtLimit limits.Sources) = IsRefused SourceTotal refused
StopsAt coming many read accepted refused rest (AtLimit limits.Transcript) = refused ≡ []
StopsAt coming many read accepted refused rest (AtLimit limits.Passes) = AtBeginning read accepted refused
StopsAt coming many read accepted refused rest NoMemory = refused ≡ []

-- all was made
pub record AtEnd (many read : ℕ) (script behind : List Edit) (refused : List Reply) (rest : List Edit)
    : Type 0 where
  pub all_read : read ≡ many
  pub behind_is : behind ≡ script
  pub unrefused : refused ≡ []
  pub all : rest ≡ []

abbrev pub EndsAt : Option (List Files) → ℕ → ℕ → List Edit → List Edit → List Reply → List Reply → List Edit
    → Result (Unit {0}) ServeStop → Type 0
EndsAt coming many read script behind accepted refused rest (Ok done) =
    AtEnd many read script behind refused rest
EndsAt coming many read script behind accepted refused rest (Err stop) =
    StopsAt coming many read accepted refused rest stop

-- Later edits were made: a front of those of the rounds, and where all rounds were read of those of the
-- script behind them. The rounds are just those whose scans gave a listing. After the first stop no further
-- edit was made; where nothing stopped them, all were.
pub record MakesEdits (coming : Option (List Files)) (old : Files) (script : List Edit) (many : ℕ)
    (before now : List Made) (result : Result (Unit {0}) ServeStop) : Type 0 where
  pub rounds : List (List Edit)
  pub are : AreRounds coming old rounds
  pub few : length rounds ≤ many
  pub behind : List Edit
  pub script_last : (behind ≡ []) ⊎ ((behind ≡ script) × (length rounds ≡ many))
  pub makes : MakesFront (edits_of rounds ++ behind) before now
  pub end : EndsAt coming many (length rounds) script behind makes.accepted makes.refused makes.rest result
