-- A script: steps, all results that are due, and turns of a client until it is caught up.
use Rattle.std.specs.Prelude.{ℕ, zero, suc, Bool, true, false, not, List, [], ◌++◌, map, filter, fold}
use Rattle.std.specs.Prelude.{reverse, Option, Some, None, if◌then◌else◌}
use Rattle.output_lines.specs.declared.words.ClientState.{ClientState}
use Rattle.output_lines.specs.declared.words.ClientState.TheVariants.{Up, Behind}
use Rattle.output_lines.specs.declared.words.EditWord.{EditWord}
use Rattle.output_lines.specs.declared.words.EditWord.TheVariants as edits_are
use Rattle.output_lines.specs.declared.words.RemoveWord.{RemoveWord}
use Rattle.output_lines.specs.declared.words.RemoveWord.TheVariants as removes
use Rattle.output_lines.specs.declared.words.SettleWord.{SettleWord}
use Rattle.output_lines.specs.declared.words.SettleWord.TheVariants as settles_as
use Rattle.output_lines.specs.declared.out_line.OutLine.{OutLine}
use Rattle.output_lines.specs.declared.out_line.OutLine.TheVariants as line
use Rattle.core_model.specs.Names.{Name}
use Rattle.core_model.specs.Sources.{Text}
use Rattle.core_model.specs.Core.{client_at}
use Rattle.client_model.specs.Language.{Language}
use Rattle.client_model.specs.Runtime.{Runtime}
use Rattle.world_model.specs.World.{World, Job, Step, settles, turn, Stepped, new_world}
use Rattle.world_model.specs.Turning.{state_in}
use Rattle.world_model.specs.Steps.{world_step}

-- a line of a script
pub data Command : Type 0 where
  step : Step → Command
  settle_all : Command
  turns : ℕ → ℕ → Command

-- a page: what its modules' texts mean, its roots, and each client's closures
pub record Stage : Type 0 where
  pub language : Language
  pub roots : List Name
  pub shelves : List (List (Text × ℕ))

-- the world, the lines so far, and whether a client would have made too many instances
pub record Played : Type 0 where
  pub world : World
  pub lines : List OutLine
  pub over : Bool

-- the lines of a step behind those before it; a step without lines ends the run
abbrev pub stepped_on : List OutLine → World → Option (List OutLine) → Played
stepped_on before w None = record { world = w; lines = before; over = true }
stepped_on before w (Some lines) = record { world = w; lines = before ++ lines; over = false }

-- a step behind what was played before
abbrev pub joined : List OutLine → Stepped → Played
joined before s = stepped_on before s.world s.lines

-- a step, where the run isn't over
abbrev pub play_step : Stage → Played → Step → Played
play_step stage p s =
    let next : Played = joined p.lines (world_step stage.language stage.roots stage.shelves p.world s) in
    if p.over then p else next

-- the result of a job
abbrev pub settle_of : Job → Step
settle_of j = settles j.name j.version

-- whether the client is caught up
abbrev pub is_up : ClientState → Bool
is_up Up = true
is_up Behind = false

-- whether a client of the world is caught up
abbrev pub is_up_in : Stage → World → ℕ → Option Runtime → Bool
is_up_in stage w i None = false
is_up_in stage w i (Some r) = is_up (state_in w i r)

-- turns of a client until it is caught up, so many at most
abbrev pub play_turns : Stage → ℕ → ℕ → Played → Played
play_turns stage i zero p = p
play_turns stage i (suc k) p =
    let next : Played = play_turns stage i k (play_step stage p (turn i)) in
    if is_up_in stage p.world i (client_at p.world.clients i) then p else next

-- an unknown client makes no turns
abbrev pub play_turns_of : Stage → ℕ → ℕ → Option Runtime → Played → Played
play_turns_of stage i k None p = play_step stage p (turn i)
play_turns_of stage i k (Some r) p = play_turns stage i k p

-- a command is carried out
abbrev pub play_command : Stage → Played → Command → Played
play_command stage p (step s) = play_step stage p s
play_command stage p settle_all = fold (play_step stage) p (map settle_of (reverse p.world.issued))
play_command stage p (turns i k) = play_turns_of stage i k (client_at p.world.clients i) p

-- a whole script
abbrev pub played : Stage → List Command → Played
played stage commands =
    fold (play_command stage) (record { world = new_world; lines = []; over = false }) commands

-- the lines of the script
abbrev pub play : Stage → List Command → List OutLine
play stage commands = (played stage commands).lines

-- lines of edits, results and openings that went well
abbrev pub is_good_edit : EditWord → Bool
is_good_edit (edits_are.Job v) = true
is_good_edit edits_are.Same = false
is_good_edit (edits_are.Refused word) = false

-- whether the removal went well
abbrev pub is_good_remove : RemoveWord → Bool
is_good_remove (removes.Removed v) = true
is_good_remove removes.Same = false
is_good_remove removes.NumbersSpent = false

-- whether the result was served
abbrev pub is_good_settle : SettleWord → Bool
is_good_settle settles_as.Served = true
is_good_settle (settles_as.Refused fault) = false
is_good_settle settles_as.Late = false
is_good_settle settles_as.NotIssued = false

-- whether the line is that of an edit, a result or an opening that went well
abbrev pub went_well : OutLine → Bool
went_well (line.Edit n outcome) = is_good_edit outcome
went_well (line.Remove n outcome) = is_good_remove outcome
went_well (line.Settle n v outcome) = is_good_settle outcome
went_well (line.Open i) = true
went_well l = false

-- the lines of the script without those
abbrev pub quiet_play : Stage → List Command → List OutLine
quiet_play stage commands = filter (λ l. not (went_well l)) (play stage commands)
