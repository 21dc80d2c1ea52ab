-- What a script makes of a page: its commands one after another, each on what those before it left, and the
-- lines that are shown of them. Where a client would make too many instances the run is over, and nothing
-- more happens.
use Rattle.std.specs.Prelude.{[], ◌∷◌, ◌++◌}
use Rattle.std.specs.Prelude.{ℕ, Bool, true, false, List, fold, map, Option, Some, None}
use Rattle.output_lines.specs.declared.out_line.OutLine.{OutLine}
use Rattle.core_model.specs.Names.{Name}
use Rattle.core_model.specs.Sources.{Text}
use Rattle.module_language.specs.ModuleLanguage.{module_language}
use Rattle.hmr_types.specs.declared.value.Value.TheVariants.{Str}
use Rattle.world_model.specs.World.{edits, settles, opens, closes, show, values, fates, fresh, fresh_of}
use Rattle.world_model.specs.World as steps
use Rattle.world_model.specs.Playing.{Stage}
use Rattle.event_runs.specs.Courses.{Course, emits, hears, new_course, plain}
use Rattle.event_runs.specs.Playing.{Command, step, settle_all, turns, Played, play_step, play_command}
use Rattle.play_script.specs.declared.script_line.ScriptLine.{ScriptLine}
use Rattle.play_script.specs.declared.script_line.ScriptLine.TheVariants as says
use Rattle.play_script.specs.Script.{Contents}
use Rattle.text_commands.specs.Showing.{shown}

-- the command of a line; `quiet` is none
abbrev pub command_of : ScriptLine → Option Command
command_of says.Quiet = None
command_of (says.Edit n text) = Some (step (plain (edits n (Some text))))
command_of (says.Remove n) = Some (step (plain (edits n None)))
command_of says.SettleAll = Some settle_all
command_of (says.Settle n v) = Some (step (plain (settles n v)))
command_of (says.Open format roots) = Some (step (plain (opens format roots)))
command_of (says.Close i) = Some (step (plain (closes i)))
command_of (says.Turn i) = Some (step (plain (steps.turn i)))
command_of (says.Turns i k) = Some (turns i k)
command_of (says.Emit event text) = Some (step (emits event (Str text)))
command_of (says.Hear i) = Some (step (hears i))
command_of (says.Show i) = Some (step (plain (show i)))
command_of (says.Values i) = Some (step (plain (values i)))
command_of (says.Fates i) = Some (step (plain (fates i)))
command_of says.Fresh = Some (step (plain fresh))
command_of (says.FreshOf i) = Some (step (plain (fresh_of i)))

-- nothing happens
abbrev pub nothing : Course → Played
nothing c = record { course = c; lines = []; over = false }

-- a part with the lines that are shown of it
abbrev pub quieted : Bool → Played → Played
quieted quiet p = record p { lines = shown quiet p.lines }

-- lines before those of a part
abbrev pub behind : List OutLine → Played → Played
behind before p = record p { lines = before ++ p.lines }

-- what comes after a part, unless that ended the run
abbrev pub unless : Bool → Played → (Course → Played) → Played
unless true part after = part
unless false part after = behind part.lines (after part.course)

-- a part, and what comes after it
abbrev pub then_on : Played → (Course → Played) → Played
then_on part after = unless part.over part after

-- the results of these jobs, in order
abbrev pub settled_by : Stage → List (Name × ℕ) → Course → Played
settled_by stage jobs c =
    fold (play_step stage) (nothing c) (map (λ job. plain (settles job.0 job.1)) jobs)

-- what a command makes
abbrev pub commanded : Stage → Command → Course → Played
commanded stage command c = play_command stage (nothing c) command

-- a line, and what comes after it: from `quiet` on the script is quiet
abbrev pub line_played : Stage → Bool → Option Command → (Bool → Course → Played) → Course → Played
line_played stage quiet None after c = after true c
line_played stage quiet (Some command) after c =
    then_on (quieted quiet (commanded stage command c)) (after quiet)

-- lines of a script, in order
abbrev pub perform : Stage → List ScriptLine → Bool → Course → Played
perform stage [] quiet c = nothing c
perform stage (l ∷ more) quiet c = line_played stage quiet (command_of l) (perform stage more) c

-- the page of these roots, where each client's embedding program has these closures
abbrev pub stage_on : List (List (Text × ℕ)) → List Name → Stage
stage_on shelves roots = record { language = module_language; roots = roots; shelves = shelves }

-- the lines of a script on a page of these roots; with no root there is no page
abbrev pub page_played : List (List (Text × ℕ)) → List Name → List ScriptLine → Played
page_played shelves [] lines = nothing new_course
page_played shelves (root ∷ more) lines = perform (stage_on shelves (root ∷ more)) lines false new_course

-- the whole script
abbrev pub script_played : List (List (Text × ℕ)) → Contents → Played
script_played shelves script = page_played shelves script.roots script.lines
