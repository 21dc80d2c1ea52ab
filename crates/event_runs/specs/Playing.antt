-- A script on a page with events: steps, all results that are due, and turns of a client until it is caught
-- up.
use Rattle.std.specs.Prelude.{ℕ, zero, suc, Bool, true, false, List, ◌++◌, map, fold, reverse, Option}
use Rattle.std.specs.Prelude.{Some, None, if◌then◌else◌}
use Rattle.output_lines.specs.declared.out_line.OutLine.{OutLine}
use Rattle.core_model.specs.Core.{client_at}
use Rattle.client_model.specs.Runtime.{Runtime}
use Rattle.world_model.specs.World.{turn}
use Rattle.world_model.specs.Playing.{Stage, is_up_in, settle_of}
use Rattle.event_runs.specs.Courses.{Course, EventStep, Moved, event_step, plain, world_in}

-- a line of a script
pub data Command : Type 0 where
  step : EventStep → Command
  settle_all : Command
  turns : ℕ → ℕ → Command

-- the course, the lines so far, and whether a client would have made too many instances
pub record Played : Type 0 where
  pub course : Course
  pub lines : List OutLine
  pub over : Bool

-- the lines of a step behind those before it; a step without lines ends the run
abbrev pub stepped_on : List OutLine → Course → Option (List OutLine) → Played
stepped_on before c None = record { course = c; lines = before; over = true }
stepped_on before c (Some lines) = record { course = c; lines = before ++ lines; over = false }

-- a step behind what was played before
abbrev pub joined : List OutLine → Moved → Played
joined before m = stepped_on before m.course m.lines

-- a step, where the run isn't over
abbrev pub play_step : Stage → Played → EventStep → Played
play_step stage p s =
    let next : Played = joined p.lines (event_step stage p.course s) in
    if p.over then p else next

-- the client as it is in the course
abbrev pub client_in : Stage → Course → ℕ → Option Runtime
client_in stage c i = client_at (world_in stage c).clients i

-- whether a client is caught up
abbrev pub is_up_at : Stage → Course → ℕ → Bool
is_up_at stage c i = is_up_in stage (world_in stage c) i (client_in stage c i)

-- turns of a client until it is caught up, so many at most
abbrev pub play_turns : Stage → ℕ → ℕ → Played → Played
play_turns stage i zero p = p
play_turns stage i (suc k) p =
    let next : Played = play_turns stage i k (play_step stage p (plain (turn i))) in
    if is_up_at stage p.course i then p else next

-- an unknown client makes no turns
abbrev pub play_turns_of : Stage → ℕ → ℕ → Option Runtime → Played → Played
play_turns_of stage i k None p = play_step stage p (plain (turn i))
play_turns_of stage i k (Some r) p = play_turns stage i k p

-- a command is carried out
abbrev pub play_command : Stage → Played → Command → Played
play_command stage p (step s) = play_step stage p s
play_command stage p settle_all =
    fold (play_step stage) p (map (λ j. plain (settle_of j)) (reverse (world_in stage p.course).issued))
play_command stage p (turns i k) = play_turns_of stage i k (client_in stage p.course i) p
