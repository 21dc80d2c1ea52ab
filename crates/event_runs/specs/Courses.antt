-- What steps with events make: steps of the world, and calls of the lists of the events that wait.
use Rattle.std.specs.Prelude.{ℕ, List, [], ◌∷◌, map, Option, Some, None}
use Rattle.hmr_types.specs.declared.value.Value.{Value}
use Rattle.output_lines.specs.declared.out_line.OutLine.{OutLine}
use Rattle.output_lines.specs.declared.out_line.OutLine.TheVariants as line
use Rattle.core_model.specs.Names.{Name}
use Rattle.core_model.specs.Core.{client_at}
use Rattle.client_model.specs.Runtime.{Runtime}
use Rattle.world_model.specs.World.{World, Step, Stepped, edits, settles, opens, turn, closes, show, values}
use Rattle.world_model.specs.World.{fates, fresh, fresh_of, fires}
use Rattle.world_model.specs.Turning.{heard_at}
use Rattle.world_model.specs.Steps.{world_after, world_step}
use Rattle.world_model.specs.Playing.{Stage}
use Rattle.hot_events.specs.Calls as calls
use Rattle.hot_events.specs.Calls.{Call, Event, first, full}
use Rattle.event_runs.specs.declared.event_step.Passage.{Passage}
use Rattle.event_runs.specs.declared.event_step.Passage.TheVariants.{Comes, Goes, Stays}

-- a step of the world; an event, by the module that stands for it, is emitted with a value; or a client hears
-- the event that has waited longest for it
pub data EventStep : Type 0 where
  plain : Step → EventStep
  emits : Name → Value → EventStep
  hears : ℕ → EventStep

-- the steps of the world and the calls of the lists so far, the newest first
pub record Course : Type 0 where
  pub steps : List Step
  pub calls : List Call

-- before any step with events: the world has made these steps, and no event waits
abbrev pub course_on : List Step → Course
course_on before = record { steps = before; calls = [] }

-- nothing has happened
abbrev pub new_course : Course
new_course = course_on []

-- the world so far
abbrev pub world_in : Stage → Course → World
world_in stage c = world_after stage.language stage.roots stage.shelves c.steps

-- the course after a step, and the step's lines; none where a client would have made too many instances
pub record Moved : Type 0 where
  pub course : Course
  pub lines : Option (List OutLine)

-- nothing but lines
abbrev pub only : Course → List OutLine → Moved
only c lines = record { course = c; lines = Some lines }

-- whether a client comes or goes
abbrev pub passage_of : Step → Passage
passage_of (edits n t) = Stays
passage_of (settles n v) = Stays
passage_of (opens format names) = Comes
passage_of (turn i) = Stays
passage_of (closes i) = Goes i
passage_of (show i) = Stays
passage_of (values i) = Stays
passage_of (fates i) = Stays
passage_of fresh = Stays
passage_of (fresh_of i) = Stays
passage_of (fires i n v) = Stays

-- the client that an opening opened, by its lines
abbrev pub opened_by : List OutLine → Option ℕ
opened_by (line.Open i ∷ []) = Some i
opened_by lines = None

-- a client that comes gets events from then on
abbrev pub entering : Option ℕ → List Call → List Call
entering None past = past
entering (Some i) past = calls.enters i ∷ past

-- the calls of a step with these lines
abbrev pub calls_of : Passage → List OutLine → List Call → List Call
calls_of Comes lines past = entering (opened_by lines) past
calls_of (Goes i) lines past = calls.leaves i ∷ past
calls_of Stays lines past = past

-- no lines where there are none
abbrev pub or_none : Option (List OutLine) → List OutLine
or_none None = []
or_none (Some lines) = lines

-- a step of the world
abbrev pub plain_step : Course → Step → Stepped → Moved
plain_step c s made = record {
  course = record { steps = s ∷ c.steps; calls = calls_of (passage_of s) (or_none made.lines) c.calls };
  lines = made.lines;
}

-- an event waits for each open client for which fewer than 1,024 wait; each other has a line, by number
abbrev pub emit_step : Course → Name → Value → Moved
emit_step c n v = record {
  course = record c { calls = calls.emits n v ∷ c.calls };
  lines = Some (map (λ i. line.Full i n) (full c.calls));
}

-- the event is fired at the client's page: where it is heard, it waits no more
abbrev pub fired_at : Course → ℕ → Event → Option (List OutLine) → Moved
fired_at c i e None = only c (line.Busy i ∷ [])
fired_at c i e (Some lines) = record {
  course = record { steps = fires i e.0 e.1 ∷ c.steps; calls = calls.takes i ∷ c.calls };
  lines = Some (line.Event i e.0 ∷ lines);
}

-- a client that is open hears the event that has waited longest for it
abbrev pub hear_step : Stage → Course → ℕ → Option Runtime → Option Event → Moved
hear_step stage c i None e = only c (line.Unknown i ∷ [])
hear_step stage c i (Some r) None = only c (line.Quiet i ∷ [])
hear_step stage c i (Some r) (Some e) = fired_at c i e (heard_at stage.language e.0 e.1 (Some r))

-- what a step makes of a course
abbrev pub event_step : Stage → Course → EventStep → Moved
event_step stage c (plain s) =
    plain_step c s (world_step stage.language stage.roots stage.shelves (world_in stage c) s)
event_step stage c (emits n v) = emit_step c n v
event_step stage c (hears i) = hear_step stage c i (client_at (world_in stage c).clients i) (first c.calls i)

-- the course of steps, the newest first, behind these of the world
abbrev pub course_after : Stage → List Step → List EventStep → Course
course_after stage before [] = course_on before
course_after stage before (s ∷ past) = (event_step stage (course_after stage before past) s).course
