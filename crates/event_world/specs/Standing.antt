-- What a world with events stands for: the definitions' course of the steps of a run.
use Rattle.std.specs.Prelude.{Result, OnOk}
use Rattle.std.specs.Global.{Vec}
use Rattle.output_lines.specs.declared.out_line.OutLine.{OutLine}
use Rattle.handler_table.specs.Held.{Answers}
use Rattle.world_laws.specs.Runs.{Run}
use Rattle.hmr_world.specs.Standing as worlds
use Rattle.world_parts.specs.Stops.{AreLines}
use Rattle.world_parts.specs.declared.stop.WorldStop.{WorldStop}
use Rattle.hmr_world.specs.declared.world.World.{World}
use Rattle.hot_events.specs.Calls as lists
use Rattle.event_runs.specs.Courses.{EventStep}
use Rattle.event_runs.specs.Runs.{EventRun, HasNoClient, KeepsEvents, course_of, run_of, run_on, step_in}
use Rattle.event_world.specs.declared.event_world.EventWorld.{EventWorld}

-- Its world stands for the run of the world that the steps make, and its lists for the calls.
pub record StandsFor {F : Type 0} (run : EventRun) (world : EventWorld F) : Type 0 where
  pub world_stands : worlds.StandsFor (run_of run) world.world
  pub lists_stand : lists.StandsFor (course_of run).calls world.waiting
  pub keeps : KeepsEvents run

-- It is in use: it stands for some run. A step that stops the run ends this.
pub record IsRunning {F : Type 0} (world : EventWorld F) : Type 0 where
  pub run : EventRun
  pub stands : StandsFor run world

-- no client is open in the world
pub record NoneIsOpen {F : Type 0} (world : World F) : Type 0 where
  pub run : Run
  pub stands : worlds.StandsFor run world
  pub none : HasNoClient run

-- A step was made: it answers the lines of the definitions, and leaves what they leave.
pub record IsStepped {F : Type 0} (run : EventRun) (s : EventStep) (after : EventWorld F)
    (result : Result (Vec OutLine) WorldStop) : Type 0 where
  pub lines : AreLines (step_in run s).lines result
  pub stands : OnOk result (StandsFor (run_on run s) after)

-- each handler and each closure of the world's clients answers what is stated for it
abbrev pub KeepsWords : {F : Type 0} → Answers F → EventWorld F → Type 0
KeepsWords answers world = worlds.KeepsWords answers world.world
