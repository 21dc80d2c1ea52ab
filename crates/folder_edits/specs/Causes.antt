-- What a pass has seen where a server stops.
use Rattle.std.specs.Prelude.{◌≡◌, ◌⊎◌, ⊤, ℕ, true, List, [], Option, Result, Ok, Err}
use Prim.{⊥}
use Rattle.hmr_types.specs.declared.words.EditRefusal.TheVariants.{TextTooLong, TooManyNames, SourceTotal}
use Rattle.core_model.specs.Names.{Name}
use Rattle.folder_watch.specs.declared.scan_stop.ScanStop.TheVariants as scans
use Rattle.hmr_hub.specs.declared.pass.Pass.{Pass}
use Rattle.hmr_hub.specs.Passes.{HasTranscript, all_given, roots_of, seen_of}
use Rattle.hmr_hub.specs.Fullness.{IsNearlyFull}
use Rattle.hub_editor.specs.Causes.{HasRefused}
use Rattle.hub_editor.specs.declared.stop.EditStop.TheVariants as edit_stops
use Rattle.folder_edits.specs.declared.stop.Limit.{Limit}
use Rattle.folder_edits.specs.declared.stop.Limit.TheVariants as limits
use Rattle.folder_edits.specs.declared.stop.ServeStop.{ServeStop}
use Rattle.folder_edits.specs.declared.stop.ServeStop.TheVariants.{Unwritten, Tree, Fault, NoMemory}
use Rattle.folder_edits.specs.declared.stop.ServeStop.TheVariants.{Limit as AtLimit}
use Rattle.folder_edits.specs.Openings.{BeginsFirst, Opens}
use Rattle.folder_edits.specs.Rounds.{Files, ScanStops}

-- Where the first scan or its edits stopped so. At a stop of the scan the pass has seen nothing; at one of an
-- edit it has seen a front of the first edits and their results.
abbrev pub IsFirstCause : Option (List Files) → Pass → ServeStop → Type 0
IsFirstCause coming p Unwritten = ⊥
IsFirstCause coming p Tree = seen_of p ≡ []
IsFirstCause coming p Fault = ⊥
IsFirstCause coming p (AtLimit limits.Text) =
    ((seen_of p ≡ []) × ((path : List ℕ) × ScanStops coming 0 (scans.TextTooLong path)))
    ⊎ (BeginsFirst coming p edit_stops.Text × HasRefused p TextTooLong)
IsFirstCause coming p (AtLimit limits.Names) =
    ((seen_of p ≡ []) × ScanStops coming 0 scans.TooManyNames)
    ⊎ (BeginsFirst coming p edit_stops.Names × HasRefused p TooManyNames)
IsFirstCause coming p (AtLimit limits.Sources) =
    BeginsFirst coming p edit_stops.Sources × HasRefused p SourceTotal
IsFirstCause coming p (AtLimit limits.Transcript) =
    BeginsFirst coming p edit_stops.Full × IsNearlyFull (seen_of p)
IsFirstCause coming p (AtLimit limits.Passes) = ⊥
IsFirstCause coming p NoMemory = ⊤

-- where a server ended before it listened: its first scan or edits stopped, or all of them were made and the
-- net failed
abbrev pub IsEarlyEnd : Option (List Files) → Pass → Result (Unit {0}) ServeStop → Type 0
IsEarlyEnd coming p (Ok done) = ⊥
IsEarlyEnd coming p (Err stop) =
    IsFirstCause coming p stop
    ⊎ ((stop ≡ Fault) × ((listing : Files) × Opens coming listing (seen_of p)))

-- it is of a pass of a hub with these roots
pub record EndsEarly (roots : List Name) (coming : Option (List Files)) (p : Pass)
    (ended : Result (Unit {0}) ServeStop) : Type 0 where
  pub transcript : HasTranscript p
  pub roots_are : roots_of p ≡ roots
  pub end : IsEarlyEnd coming p ended

-- what the editor's pass has seen where the editing was stopped by this limit
abbrev pub IsLimitCause : Pass → Limit → Type 0
IsLimitCause p limits.Text = ⊤
IsLimitCause p limits.Names = ⊤
IsLimitCause p limits.Sources = ⊤
IsLimitCause p limits.Transcript = IsNearlyFull (seen_of p)
IsLimitCause p limits.Passes = all_given p ≡ true

-- where the editing ended so; the output, the net and the passes are not in its hands
abbrev pub IsEditCause : Pass → ServeStop → Type 0
IsEditCause p Unwritten = ⊥
IsEditCause p Tree = ⊤
IsEditCause p Fault = ⊥
IsEditCause p (AtLimit limits.Text) = ⊤
IsEditCause p (AtLimit limits.Names) = ⊤
IsEditCause p (AtLimit limits.Sources) = ⊤
IsEditCause p (AtLimit limits.Transcript) = IsNearlyFull (seen_of p)
IsEditCause p (AtLimit limits.Passes) = ⊥
IsEditCause p NoMemory = ⊤

-- where the editor ended so while it settled jobs
abbrev pub IsSettleCause : Pass → ServeStop → Type 0
IsSettleCause p Unwritten = ⊥
IsSettleCause p Tree = ⊥
IsSettleCause p Fault = ⊥
IsSettleCause p (AtLimit limits.Text) = ⊥
IsSettleCause p (AtLimit limits.Names) = ⊥
IsSettleCause p (AtLimit limits.Sources) = ⊥
IsSettleCause p (AtLimit limits.Transcript) = IsNearlyFull (seen_of p)
IsSettleCause p (AtLimit limits.Passes) = ⊥
IsSettleCause p NoMemory = ⊤

-- where the work of the server ended so; it writes nothing
abbrev pub IsWorkCause : Pass → ServeStop → Type 0
IsWorkCause p Unwritten = ⊥
IsWorkCause p Tree = ⊤
IsWorkCause p Fault = ⊤
IsWorkCause p (AtLimit limit) = IsLimitCause p limit
IsWorkCause p NoMemory = ⊤

-- where the server ended so
abbrev pub IsCause : Pass → ServeStop → Type 0
IsCause p Unwritten = ⊤
IsCause p Tree = ⊤
IsCause p Fault = ⊤
IsCause p (AtLimit limit) = IsLimitCause p limit
IsCause p NoMemory = ⊤
