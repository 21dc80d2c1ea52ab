-- Where a world stands in the play of a script, and how far it has played a part of it.
use Rattle.std.specs.Prelude.{◌≡◌, Result, OnOk, IsErrOf}
use Rattle.world_model.specs.Playing.{Stage}
use Rattle.event_runs.specs.Courses.{Course}
use Rattle.event_world.specs.Logs.{IsLogged}
use Rattle.event_runs.specs.Logs.{IsLogOf, core_events}
use Rattle.event_runs.specs.Runs.{EventRun, course_of, stage_of}
use Rattle.event_world.specs.Standing.{StandsFor}
use Rattle.event_world.specs.declared.event_world.EventWorld.{EventWorld}
use Rattle.event_runs.specs.Playing.{Played}
use Rattle.text_commands.specs.declared.stop.Stop.{Stop}
use Rattle.text_commands.specs.declared.stop.Stop.TheVariants.{InstancesFull}
use Rattle.text_commands.specs.Writing.{Taken}
use Rattle.script_runs.specs.Performing.{Performs}

-- the world stands for a run on the page that makes this course, and its log is that of the run
pub record IsAt {F : Type 0} (stage : Stage) (c : Course) (world : EventWorld F) : Type 0 where
  pub run : EventRun
  pub stands : StandsFor run world
  pub logged : IsLogged run world
  pub stage_is : stage_of run ≡ stage
  pub is : course_of run ≡ c

-- the world is somewhere in the play of some script
pub record IsSomewhere {F : Type 0} (world : EventWorld F) : Type 0 where
  pub stage : Stage
  pub course : Course
  pub at : IsAt stage course world

-- the world's log is that of what the core is told in a course
abbrev pub LogsAt : {F : Type 0} → Stage → Course → EventWorld F → Type 0
LogsAt stage c world = IsLogOf (core_events stage c.steps) world.log

-- A part of a play was carried out, and the world is where the part ends; where that ends the run by too many
-- instances, its log is that of the whole part.
pub record Plays {F : Type 0} (stage : Stage) (old new : Taken) (part : Played)
    (after : EventWorld F) (result : Result (Unit {0}) Stop) : Type 0 where
  pub performs : Performs old new part result
  pub state : OnOk result (IsAt stage part.course after)
  pub stopped : IsErrOf result InstancesFull → LogsAt stage part.course after
