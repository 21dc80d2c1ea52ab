-- What `record` writes of a run: the record of the events that the core was told.
use Rattle.std.specs.Prelude.{ℕ, List}
use Rattle.core_model.specs.Core.{Event}
use Rattle.world_model.specs.Playing.{Stage}
use Rattle.event_runs.specs.Logs.{core_events}
use Rattle.event_runs.specs.Playing.{Played}
use Rattle.core_model.specs.Names.{Name}
use Rattle.record_laws.specs.Written.{record_told}
use Rattle.record_text.specs.Texts.{record_text}

-- the events that the core is told in a part of a script, also in a step that ends the run
abbrev pub events_of : Stage → Played → List Event
events_of stage p = core_events stage p.course.steps

-- the text of the record of events that a core of these roots is told
abbrev pub events_text : List Name → List Event → List ℕ
events_text roots events = record_text (record_told roots events)
