-- The event of a core that a record tells.
use Rattle.std.specs.Prelude.{Some, None}
use Rattle.module_semantics.specs.Analysis.{transformed}
use Rattle.module_semantics.specs.ModuleText.{parsing}
use Rattle.core_model.specs.Core.{Event, change, connect, request, disconnect}
use Rattle.core_model.specs.Requests.{ask, fetch, applied_as, aborted, invalidate}
use Rattle.core_model.specs.Sources.{edit, result}
use Rattle.record_text.specs.declared.record.RecordEvent.{RecordEvent}
use Rattle.record_text.specs.declared.record.RecordEvent.TheVariants as events

-- the event that a record tells: the outcome of a result is that of transforming its text
abbrev pub event_in : RecordEvent → Event
event_in (events.Edit name text) = change (edit name (Some text))
event_in (events.Remove name) = change (edit name None)
event_in (events.Settle name text version) =
    change (result name text (transformed parsing name text) version)
event_in (events.Connect names) = connect names
event_in (events.Ask client) = request client ask
event_in (events.Fetch client name) = request client (fetch name)
event_in (events.Applied client table) = request client (applied_as table)
event_in (events.Aborted client) = request client aborted
event_in (events.Invalidate client name version) = request client (invalidate name version)
event_in (events.Disconnect client) = disconnect client
