-- How a part of a script ended, with the log of what the core was told in it.
use Rattle.std.specs.Prelude.{◌≡◌, true, false, List, Result, OnOk, IsErrOf}
use Rattle.world_model.specs.Playing.{Stage}
use Rattle.core_model.specs.Core.{Event}
use Rattle.event_runs.specs.Logs.{IsLogOf}
use Rattle.event_runs.specs.Playing.{Played}
use Rattle.event_runs.specs.declared.event_log.EventLog.{EventLog}
use Rattle.text_commands.specs.declared.stop.Stop.{Stop}
use Rattle.text_commands.specs.declared.stop.Stop.TheVariants.{InstancesFull}
use Rattle.script_runs.specs.Recording.{events_of}

-- A part of a script ended so, and the log is that of what the core was told in it.
pub record IsLoggedEnd (stage : Stage) (p : Played) (played : Result (Unit {0}) Stop) (log : EventLog)
    : Type 0 where
  pub goes_on : OnOk played (p.over ≡ false)
  pub done : OnOk played (IsLogOf (events_of stage p) log)
  pub ended : IsErrOf played InstancesFull → p.over ≡ true
  pub stopped : IsErrOf played InstancesFull → IsLogOf (events_of stage p) log

-- the log is that of some events
pub record IsSomeLog (log : EventLog) : Type 0 where
  pub events : List Event
  pub is : IsLogOf events log

-- some part ended so
pub record IsSomeLoggedEnd (played : Result (Unit {0}) Stop) (log : EventLog) : Type 0 where
  pub stage : Stage
  pub part : Played
  pub is : IsLoggedEnd stage part played log
