-- Runs with events, and what clients hear in them.
use Rattle.std.specs.Prelude.{◌≡◌, ℕ, ◌==◌, Bool, true, false, ◌||◌, List, [], ◌∷◌, ◌++◌, None, is_some}
use Rattle.core_model.specs.Names.{Name}
use Rattle.core_model.specs.Sources.{Text}
use Rattle.core_model.specs.Core.{client_at}
use Rattle.client_model.specs.Past.{Past, message, event}
use Rattle.module_language.specs.ModuleLanguage.{module_language}
use Rattle.world_model.specs.World.{Step}
use Rattle.world_model.specs.Playing.{Stage}
use Rattle.world_laws.specs.Runs.{Run, life_in, world_of}
use Rattle.hot_events.specs.Calls.{Call, Event, emits, enters, heard, is_present, leaves, takes}
use Rattle.event_runs.specs.Courses.{Course, EventStep, Moved, course_after, event_step}
use Rattle.event_runs.specs.Listening.{AllListenersRan}

-- Any steps of the world, emissions and hearings, in any order.
pub record EventRun : Type 0 where
  pub roots : List Name  -- the server's roots
  pub shelves : List (List (Text × ℕ))  -- the closures that each client's embedding program has
  pub before : List Step  -- the world's steps before these; no client is open after them
  pub steps : List EventStep  -- the newest first

-- the page of a run
abbrev pub stage_of : EventRun → Stage
stage_of run = record { language = module_language; roots = run.roots; shelves = run.shelves }

-- what the steps of the run make
abbrev pub course_of : EventRun → Course
course_of run = course_after (stage_of run) run.before run.steps

-- the run of the world that they make
abbrev pub run_of : EventRun → Run
run_of run = record { roots = run.roots; shelves = run.shelves; steps = (course_of run).steps }

-- a run of the world, before any step with events
abbrev pub beginning : Run → EventRun
beginning run = record { roots = run.roots; shelves = run.shelves; before = run.steps; steps = [] }

-- the run with one step more
abbrev pub run_on : EventRun → EventStep → EventRun
run_on run s = record run { steps = s ∷ run.steps }

-- what the step makes of the run's course
abbrev pub step_in : EventRun → EventStep → Moved
step_in run s = event_step (stage_of run) (course_of run) s

-- events wait for a client exactly while it is open
abbrev pub IsThereWhereOpen : EventRun → Type 0
IsThereWhereOpen run =
    (i : ℕ) → is_present (course_of run).calls i ≡ is_some (client_at (world_of (run_of run)).clients i)

-- whether a client came in these calls
abbrev pub has_come : List Call → ℕ → Bool
has_come [] i = false
has_come (enters j ∷ past) i = (j == i) || has_come past i
has_come (leaves j ∷ past) i = has_come past i
has_come (emits n v ∷ past) i = has_come past i
has_come (takes j ∷ past) i = has_come past i

-- the events among all that came to a client, the oldest first
abbrev pub events_among : Past → List Event
events_among [] = []
events_among (message m ∷ past) = events_among past
events_among (event n v ∷ past) = events_among past ++ (n, v) ∷ []

-- the events that were fired at the page of a client since it was opened are those that it has heard: those
-- that were emitted while it was open and fewer than 1,024 waited for it, in order, each once, without those
-- that still wait or were given up
abbrev pub EventsAreHeard : EventRun → Type 0
EventsAreHeard run =
    (i : ℕ) → has_come (course_of run).calls i ≡ true →
    events_among (life_in (run_of run) i).past ≡ heard (course_of run).calls i

-- each of them ran every listener of the instances that were live at that moment once, and none of any other
abbrev pub ListenersRanOnce : EventRun → Type 0
ListenersRanOnce run =
    (i : ℕ) → has_come (course_of run).calls i ≡ true →
    AllListenersRan module_language (life_in (run_of run) i).opening (life_in (run_of run) i).past

-- what every run keeps
pub record KeepsEvents (run : EventRun) : Type 0 where
  pub there : IsThereWhereOpen run
  pub heard : EventsAreHeard run
  pub listeners : ListenersRanOnce run

-- no client is open after the run
abbrev pub HasNoClient : Run → Type 0
HasNoClient run = (i : ℕ) → client_at (world_of run).clients i ≡ None
