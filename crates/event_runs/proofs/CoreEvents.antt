-- What the core is told in a step of a world with events.
use Rattle.std.proofs.Common.{◌≡◌, ℕ, List, refl}
use Rattle.std.specs.Prelude.{Option, Some, None}
use Rattle.output_lines.specs.declared.out_line.OutLine.{OutLine}
use Rattle.core_model.specs.Core as model
use Rattle.core_model.specs.Core.{client_at}
use Rattle.client_model.specs.Runtime.{Runtime}
use Rattle.module_language.specs.ModuleLanguage.{module_language}
use Rattle.world_model.specs.Turning.{heard_at}
use Rattle.world_model.specs.World.{Step, fires}
use Rattle.world_laws.specs.Runs.{Run}
use Rattle.run_promises.specs.Events as worlds
use Rattle.hot_events.specs.Calls.{Event, first}
use Rattle.event_runs.specs.CoreEvents.{TellsItsEvent}
use Rattle.event_runs.specs.Courses.{Course, EventStep, plain, emits, hears, fired_at, hear_step, world_in}
use Rattle.event_runs.specs.Runs.{EventRun, course_of, run_of, stage_of}

module _ (run : EventRun) (each : (run : Run) (s : Step) → worlds.TellsItsEvent run s) where
  abbrev course : Course
  course = course_of run

  -- the world's core
  abbrev core_in : Course → model.Core
  core_in c = (world_in (stage_of run) c).core

  -- an event that is fired at a client's page tells the core nothing
  fired_tells : (i : ℕ) (e : Event) (lines : Option (List OutLine))
      → core_in (fired_at course i e lines).course ≡ core_in course
  fired_tells i e None = refl
  fired_tells i e (Some lines) = each (run_of run) (fires i e.0 e.1)

  hear_tells : (i : ℕ) (r : Option Runtime) (e : Option Event)
      → core_in (hear_step (stage_of run) course i r e).course ≡ core_in course
  hear_tells i None e = refl
  hear_tells i (Some r) None = refl
  hear_tells i (Some r) (Some e) = fired_tells i e (heard_at module_language e.0 e.1 (Some r))

  pub each_tells : (s : EventStep) → TellsItsEvent run s
  each_tells (plain s) = each (run_of run) s
  each_tells (emits n v) = refl
  each_tells (hears i) =
      hear_tells i (client_at (world_in (stage_of run) course).clients i) (first course.calls i)
