-- Events as a transcript keeps them.
use Rattle.std.specs.Option.{option_map}
use Rattle.module_semantics.specs.Analysis.{transformed}
use Rattle.module_semantics.specs.ModuleText.{parsing}
use Rattle.core_model.specs.Sources.{edit, result}
use Rattle.core_model.specs.Requests.{ask, fetch, applied_as, aborted, invalidate}
use Rattle.core_model.specs.Core.{Event, change, connect, request, disconnect}
use Rattle.core_model.specs.Transcript.{Recorded}
use Rattle.transcripts.specs.declared.kept_event.KeptEvent.{KeptEvent}
use Rattle.transcripts.specs.declared.kept_event.KeptEvent.TheVariants as kept
use Rattle.transcripts.specs.declared.kept_event.Entry.{Entry}

-- the event: the outcome of a result is that of transforming its text
abbrev pub kept_as : KeptEvent → Event
kept_as (kept.Edit n t) = change (edit n (option_map (λ v. v.items) t))
kept_as (kept.Settle n t v) = change (result n t.items (transformed parsing n t.items) v)
kept_as (kept.Connect names) = connect names.items
kept_as (kept.Ask i) = request i ask
kept_as (kept.Fetch i n) = request i (fetch n)
kept_as (kept.Applied i table) = request i (applied_as table)
kept_as (kept.Aborted i) = request i aborted
kept_as (kept.Invalidate i n v) = request i (invalidate n v)
kept_as (kept.Disconnect i) = disconnect i

-- the event under the number of its pass
abbrev pub entry_of : Entry → Recorded
entry_of e = (e.by, kept_as e.event)
