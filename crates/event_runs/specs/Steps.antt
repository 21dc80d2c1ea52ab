-- The steps of the world with events, as the definitions have them.
use Rattle.std.specs.Prelude.{⊤}
use Rattle.world_parts.specs.Steps as plain_steps
use Rattle.world_parts.specs.Steps.{step_of}
use Rattle.event_runs.specs.Courses as model
use Rattle.event_runs.specs.declared.event_step.EventStep.{EventStep}
use Rattle.event_runs.specs.declared.event_step.EventStep.TheVariants as steps

-- a step, as the definitions have it
abbrev pub event_step_of : EventStep → model.EventStep
event_step_of (steps.Plain s) = model.plain (step_of s)
event_step_of (steps.Emit n v) = model.emits n v
event_step_of (steps.Hear i) = model.hears i

-- a client is opened in format 1 or 2
abbrev pub HasFormat : EventStep → Type 0
HasFormat (steps.Plain s) = plain_steps.HasFormat s
HasFormat (steps.Emit n v) = ⊤
HasFormat (steps.Hear i) = ⊤
