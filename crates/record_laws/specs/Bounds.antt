-- How much a transcript may have.
use Rattle.std.specs.Prelude.{ℕ, ◌+◌, Bool, ◌&&◌, nat_le, nat_lt, List, length, sum_by}
use Rattle.core_model.specs.Core.{Event}
use Rattle.core_model.specs.Transcript.{event_bytes, most_bytes, most_entries}

-- the bytes that an event counts in a transcript
abbrev pub entry_bytes : Event → ℕ
entry_bytes event = 64 + event_bytes event

-- the bytes of a transcript of these events
abbrev pub past_bytes : List Event → ℕ
past_bytes past = sum_by entry_bytes past

-- a transcript of these events has a place for one more
abbrev pub has_place : List Event → Event → Bool
has_place past event =
    nat_lt (length past) most_entries && nat_le (entry_bytes event + past_bytes past) most_bytes
