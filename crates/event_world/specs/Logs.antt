-- The log of a world with events.
use Rattle.event_runs.specs.Logs.{IsLogOf, core_events}
use Rattle.event_runs.specs.Runs.{EventRun, course_of, stage_of}
use Rattle.event_world.specs.declared.event_world.EventWorld.{EventWorld}

-- the world's log is that of what the core is told in the run
abbrev pub IsLogged : {F : Type 0} → EventRun → EventWorld F → Type 0
IsLogged run world = IsLogOf (core_events (stage_of run) (course_of run).steps) world.log
