-- The event that the core is told in a step of a world with events, where it is told one.
use Rattle.std.specs.Prelude.{◌≡◌, Option, None}
use Rattle.core_model.specs.Core as model
use Rattle.world_laws.specs.Runs.{world_of}
use Rattle.run_promises.specs.Events.{event_in, told}
use Rattle.event_runs.specs.Courses.{EventStep, plain, emits, hears}
use Rattle.event_runs.specs.Runs.{EventRun, run_of, run_on}

-- that of a step of the world; an event that is emitted or heard is none of the core
abbrev pub core_event_in : EventRun → EventStep → Option model.Event
core_event_in run (plain s) = event_in (run_of run) s
core_event_in run (emits n v) = None
core_event_in run (hears i) = None

-- the step tells the core just that event
abbrev pub TellsItsEvent : EventRun → EventStep → Type 0
TellsItsEvent run s =
    (world_of (run_of (run_on run s))).core ≡
    told run.roots (world_of (run_of run)).core (core_event_in run s)
