-- The event that the core is told in a step, where it is told one.
use Rattle.std.specs.Prelude.{◌≡◌, ℕ, List, Option, Some, None, find}
use Rattle.core_model.specs.Names.{Name}
use Rattle.core_model.specs.Sources.{edit, result}
use Rattle.core_model.specs.Core.{Core, Event, change, connect, disconnect, step, client_at}
use Rattle.core_model.specs.Exchange.{event_of}
use Rattle.client_model.specs.Language.{Language}
use Rattle.client_model.specs.Requesting.{request}
use Rattle.client_model.specs.Runtime.{Runtime}
use Rattle.module_language.specs.ModuleLanguage.{module_language}
use Rattle.world_model.specs.Editing.{is_job}
use Rattle.world_model.specs.World.{Job, World, Step, edits, settles, opens, turn, closes, show, values}
use Rattle.world_model.specs.World.{fates, fresh, fresh_of, fires}
use Rattle.world_laws.specs.Runs.{Run, world_of}
use Rattle.run_promises.specs.RunSteps.{run_on}

-- the result of an issued job: that of transforming its text
abbrev pub result_of : Language → Name → ℕ → Option Job → Option Event
result_of language n v None = None
result_of language n v (Some j) = Some (change (result n j.text (language.transformed n j.text) v))

-- what a client that is open asks or tells
abbrev pub request_of : Language → ℕ → Option Runtime → Option Event
request_of language i None = None
request_of language i (Some r) = Some (event_of i (request language r))

-- a client that is open goes
abbrev pub bye_of : ℕ → Option Runtime → Option Event
bye_of i None = None
bye_of i (Some r) = Some (disconnect i)

-- the event that the world's core is told in a step
abbrev pub event_at : Language → World → Step → Option Event
event_at language w (edits n t) = Some (change (edit n t))
event_at language w (settles n v) = result_of language n v (find (is_job n v) w.issued)
event_at language w (opens format names) = Some (connect names)
event_at language w (turn i) = request_of language i (client_at w.clients i)
event_at language w (closes i) = bye_of i (client_at w.clients i)
event_at language w (show i) = None
event_at language w (values i) = None
event_at language w (fates i) = None
event_at language w fresh = None
event_at language w (fresh_of i) = None
event_at language w (fires i n value) = None

-- the event that the core is told in a step behind those of the run
abbrev pub event_in : Run → Step → Option Event
event_in run s = event_at module_language (world_of run) s

-- the core after an event; as it was where there is none
abbrev pub told : List Name → Core → Option Event → Core
told roots core None = core
told roots core (Some event) = (step roots core event).0

-- the step tells the core just that event
abbrev pub TellsItsEvent : Run → Step → Type 0
TellsItsEvent run s =
    (world_of (run_on run s)).core ≡ told run.roots (world_of run).core (event_in run s)
