-- What a server writes, and of which transcript.
use Rattle.std.specs.Prelude.{◌≡◌, ◌≢◌, ◌⊎◌, ℕ, ⊤, Bool, List, [], ◌∷◌, ◌++◌, map, flat_map, codes, decimal}
use Rattle.std.specs.Prelude.{All, Option, Result, Ok, Err, OnOk, length, true, false, if◌then◌else◌}
use Rattle.std.specs.Option.{option_map}
use Rattle.std.specs.Io.KnownBytes.{Appends}
use Rattle.std.specs.List.Sorted.{IsPermutation}
use Prim.{⊥}
use Rattle.hmr_base.specs.Causes.{Rose}
use Rattle.hmr_base.specs.Fronts.{WritesFront}
use Rattle.core_model.specs.Names.{Name}
use Rattle.core_model.specs.Transcript.{Recorded, events_of}
use Rattle.folders.specs.Files.{files_after}
use Rattle.turn_lock.specs.Histories.{calls}
use Rattle.transform_pool.specs.Tasks.{Task}
use Rattle.hmr_hub.specs.declared.pass.Hub.{Hub}
use Rattle.hmr_hub.specs.declared.pass.Pass.{Pass}
use Rattle.hmr_hub.specs.declared.report_line.ReportLine.TheVariants.{Line}
use Rattle.hmr_hub.specs.Passes.{HasTranscript, IsPassOf, all_given, number_of, roots_of, seen_of}
use Rattle.hmr_hub.specs.Reports.{report_of}
use Rattle.hmr_hub.specs.Fullness.{IsNearlyFull}
use Rattle.hmr_hub.specs.Moves.{Moved}
use Rattle.hub_editor.specs.Edits.{Edit, Made, jobs_at_end}
use Rattle.hub_editor.specs.Editing.{AreAnswered, HaveLastResults, entries_of}
use Rattle.hub_editor.specs.Openings.{AreAccepted, opening}
use Rattle.hub_editor.specs.Results.{HasOwnResults, result_entry}
use Rattle.record_text.specs.Texts.{record_text}
use Rattle.record_laws.specs.Course.{verdict_of}
use Rattle.record_laws.specs.Sound.{rests_behind}
use Rattle.record_laws.specs.Written.{lines_told, record_told}
use Rattle.record_laws.specs.declared.verdict.Verdict.TheVariants.{Yes}
use Rattle.crew_plans.specs.declared.gathered.Gathered.{Gathered}
use Rattle.crew_plans.specs.Hubs.{Log}
use Rattle.serve_reports.specs.Logs.{log_lines}
use Rattle.serve_reports.specs.Texts.{report_text}
use Rattle.folder_edits.specs.declared.stop.Limit.TheVariants.{Transcript}
use Rattle.folder_edits.specs.declared.stop.ServeStop.{ServeStop}
use Rattle.folder_edits.specs.declared.stop.ServeStop.TheVariants.{Unwritten, Tree, Fault, NoMemory}
use Rattle.folder_edits.specs.declared.stop.ServeStop.TheVariants.{Limit as AtLimit}
use Rattle.folder_edits.specs.Causes.{EndsEarly, IsCause}
use Rattle.folder_edits.specs.Rounds.{Files, IsRound, MakesEdits}
use Rattle.folder_edits.specs.Stops.{last_text}

-- how a server ended
abbrev pub End : Type 0
End = Result (Unit {0}) ServeStop

-- how the jobs of a server ended: one lacked memory, one found the transcript full, the link of one failed or
-- one was given up
pub record JobEnds : Type 0 where
  pub memory : Bool
  pub full : Bool
  pub fault : Bool

-- by the editor's own stop, and else by the jobs: memory before a full transcript, and that before a fault
abbrev pub status_by : JobEnds → End → End
status_by jobs (Err stop) = Err stop
status_by jobs (Ok done) =
    if jobs.memory then Err NoMemory
    else if jobs.full then Err (AtLimit Transcript)
    else if jobs.fault then Err Fault
    else Ok done

abbrev pub job_ends : Gathered → JobEnds
job_ends gathered = record { memory = gathered.memory; full = gathered.full; fault = gathered.fault }

abbrev pub status_after : Gathered → End → End
status_after gathered ended = status_by (job_ends gathered) ended

-- the line that is written as soon as the server listens
abbrev pub header : ℕ → List ℕ
header port = codes "listening " ++ decimal port ++ codes "\n"

-- the record of what a pass has seen, where it is asked for
abbrev pub record_part : Bool → Pass → List ℕ
record_part false p = []
record_part true p = codes "record\n" ++ record_text (record_told (roots_of p) (events_of (seen_of p)))

-- the check of records says yes of the record of what a pass has seen, with as many steps as that has entries
abbrev pub IsConfirmed : Pass → Type 0
IsConfirmed p =
    let events = events_of (seen_of p) in
    verdict_of (record_text (record_told (roots_of p) events)) ≡
    Yes (length (seen_of p)) (rests_behind 0 (lines_told (roots_of p) [] events))

-- the same where the record is asked for
abbrev pub IsConfirmedPart : Bool → Pass → Type 0
IsConfirmedPart false p = ⊤
IsConfirmedPart true p = IsConfirmed p

-- the report of what a pass has seen, the lines of the program's own clients, and the record where it is
-- asked for
abbrev pub report_with : Bool → Pass → List Log → List ℕ
report_with asked p logs =
    report_text (report_of (roots_of p) (seen_of p) ++ map Line (flat_map log_lines logs)) ++ record_part asked p

-- the report is written whole: the output didn't fail, and there was memory
abbrev pub IsReported : End → Type 0
IsReported (Ok done) = ⊤
IsReported (Err Unwritten) = ⊥
IsReported (Err Tree) = ⊤
IsReported (Err Fault) = ⊤
IsReported (Err (AtLimit limit)) = ⊤
IsReported (Err NoMemory) = ⊥

-- a front of the report is written, and all of it where the server ended so; then the check of records says
-- yes of its record
pub record Reported (asked : Bool) (p : Pass) (ended : End) (old new : Option (List ℕ)) : Type 0 where
  pub logs : List Log
  pub front : WritesFront old new (report_with asked p logs)
  pub whole : IsReported ended → Appends old new (report_with asked p logs)
  pub confirmed : IsReported ended → IsConfirmedPart asked p

-- the passes of the jobs were joined into a pass, which has then seen the transcript that is reported
pub record WindsUp (hub : Hub) (old q : Pass) : Type 0 where
  pub of : IsPassOf hub q
  pub transcript : HasTranscript q
  pub own : Moved old q []
  pub given : all_given old ≡ true → all_given q ≡ true

-- The end of a server, whose report is that of the transcript which a pass has then seen. Where it ended since a
-- job found that full, it is nearly so.
pub record EndsReported (asked : Bool) (hub : Hub) (old : Pass) (full : Bool) (result : End)
    (before after : Option (List ℕ)) : Type 0 where
  pub pass : Pass
  pub winds : WindsUp hub old pass
  pub is_full : result ≡ Err (AtLimit Transcript) → full ≡ true → IsNearlyFull (seen_of pass)
  pub reported : Reported asked pass result before after

-- the cause of an end
abbrev pub HasCause : Pass → End → Type 0
HasCause p (Ok done) = ⊤
HasCause p (Err stop) = IsCause p stop

-- the server ended as its editor and its jobs did, or else by the output or since memory ran out at the end
abbrev pub EndsBy : JobEnds → End → End → Type 0
EndsBy jobs edited ended =
    (ended ≡ status_by jobs edited) ⊎ ((ended ≡ Err Unwritten) ⊎ (ended ≡ Err NoMemory))

-- What a server of a folder did, as the editor's pass has seen it at the end. There is one transcript. It
-- begins with the first scan's edits, none of which was refused, and their results. Under the editor's number
-- it has besides these just the later edits, each once and in order, and of some of their jobs the result,
-- each once. Each later edit was answered at its own place. The editor's stop is the server's, unless the
-- output failed or memory ran out at the end; else the end is by what the jobs left.
pub record Served (roots : List Name) (coming : Option (List Files)) (script : List Edit) (many : ℕ)
    (ended : End)
    (p : Pass) : Type 0 where
  pub transcript : HasTranscript p
  pub roots_are : roots_of p ≡ roots
  pub listing : Files
  pub first : List Edit
  pub scanned : IsRound coming [] listing first
  pub accepted : AreAccepted [] first
  pub later : List Recorded
  pub begins : seen_of p ≡ opening first ++ later
  pub made : List Made
  pub edited : End
  pub makes : MakesEdits (option_map files_after coming) listing script many [] made edited
  pub settled : List Task
  pub mine : calls (0 ∷ []) (seen_of p)
      ≡ opening first ++ (flat_map entries_of made ++ map result_entry settled)
  pub each : IsPermutation (flat_map jobs_at_end made) settled
  pub number : number_of p ≡ 0
  pub answered : AreAnswered p (opening first) made
  pub results : All (HasOwnResults (seen_of p)) made
  pub last_results : OnOk edited (HaveLastResults p made)
  pub jobs : JobEnds
  pub status : EndsBy jobs edited ended
  pub cause : HasCause p ended

-- The port that it listens at was written, and the report of that transcript, with its record where that is
-- asked for, of which the check of records says yes; at a limit its line stands last. Where the output failed
-- or memory ran out, a front of that was written. The counts are those of the output.
pub record Wrote (asked : Bool) (port : ℕ) (p : Pass) (ended : End) (old new : Option (List ℕ))
    (before now : ℕ) : Type 0 where
  pub logs : List Log
  pub front : WritesFront old new (header port ++ (report_with asked p logs ++ last_text ended))
  pub whole : IsReported ended → ¬ Rose before now
      → Appends old new (header port ++ (report_with asked p logs ++ last_text ended))
  pub confirmed : IsReported ended → IsConfirmedPart asked p

-- the same before the line of a limit
pub record WroteReport (asked : Bool) (port : ℕ) (p : Pass) (ended : End)
    (old new : Option (List ℕ)) : Type 0 where
  pub logs : List Log
  pub front : WritesFront old new (header port ++ report_with asked p logs)
  pub whole : IsReported ended → Appends old new (header port ++ report_with asked p logs)
  pub confirmed : IsReported ended → IsConfirmedPart asked p

-- The server ended before it listened, and not by its output. Where it wasn't since memory ran out, a pass of
-- a hub with these roots has seen just what the first scan and its edits had come to, and the cause.
pub record StopsEarly (roots : List Name) (coming : Option (List Files)) (ended : End) : Type 0 where
  pub cause : (ended ≡ Err NoMemory) ⊎ ((p : Pass) × EndsEarly roots coming p ended)
  pub stopped : OnOk ended ⊥
  pub written : ended ≢ Err Unwritten

-- and nothing is written but the line of a limit
pub record WroteEarly (ended : End) (old new : Option (List ℕ)) (before now : ℕ) : Type 0 where
  pub front : WritesFront old new (last_text ended)
  pub whole : ¬ Rose before now → Appends old new (last_text ended)
