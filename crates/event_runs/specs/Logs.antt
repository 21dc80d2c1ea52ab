-- The events that a core is told in the steps of a world, and the log of them.
use Rattle.std.specs.Prelude.{◌≡◌, ◌≤◌, ◌+◌, ℕ, Bool, true, false, ◌&&◌, nat_le, List, [], ◌∷◌, ◌++◌}
use Rattle.std.specs.Prelude.{map, length, Option, Some, None, ⊤}
use Rattle.core_model.specs.Core as model
use Rattle.core_model.specs.Transcript.{most_bytes, most_entries}
use Rattle.events_and_replies.specs.Said.{event_of}
use Rattle.events_and_replies.specs.declared.event.Event.{Event}
use Rattle.record_laws.specs.Bounds.{past_bytes}
use Rattle.world_model.specs.World.{Step}
use Rattle.world_model.specs.Steps.{world_after}
use Rattle.world_model.specs.Playing.{Stage}
use Rattle.run_promises.specs.Events.{event_at}
use Rattle.event_runs.specs.declared.event_log.EventLog.{EventLog}
use Rattle.event_runs.specs.declared.event_log.EventLog.TheVariants.{Off, Kept, Full}

-- an event, or none
abbrev pub listed : Option model.Event → List model.Event
listed None = []
listed (Some event) = event ∷ []

-- the events that the core is told in these steps of the world, of which the newest is first: the oldest event
-- first
abbrev pub core_events : Stage → List Step → List model.Event
core_events stage [] = []
core_events stage (s ∷ past) =
    core_events stage past
    ++ listed (event_at stage.language (world_after stage.language stage.roots stage.shelves past) s)

-- the events have places in a transcript
abbrev pub fits : List model.Event → Bool
fits events = nat_le (length events) most_entries && nat_le (past_bytes events) most_bytes

-- events are logged
abbrev pub is_on : EventLog → Bool
is_on Off = false
is_on (Kept events left) = true
is_on Full = true

-- these events are kept, which have places in a transcript, and so many bytes of it are left
pub record IsKept (told : List model.Event) (events : List Event) (left : ℕ) : Type 0 where
  pub events_are : map event_of events ≡ told
  pub few : length events ≤ most_entries
  pub left_is : left + past_bytes (map event_of events) ≡ most_bytes

-- the log is that of these events: where they are logged, they are kept as long as they have places
abbrev pub IsLogOf : List model.Event → EventLog → Type 0
IsLogOf told Off = ⊤
IsLogOf told (Kept events left) = IsKept told events.items left
IsLogOf told Full = fits told ≡ false
