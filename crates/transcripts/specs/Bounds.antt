-- A transcript as the code keeps it, within its bounds.
use Rattle.std.specs.Prelude.{◌≡◌, ◌≤◌, ◌+◌, ◌-◌, length, map, vec_capacity, vec_len}
use Rattle.core_model.specs.Transcript.{most_bytes, most_entries, transcript_bytes}
use Rattle.transcripts.specs.declared.transcript.Transcript.TheInside.{Inside}
use Rattle.transcripts.specs.KeptEvents.{entry_of}
use Rattle.transcripts.specs.Kept.{Kept}

-- the entries, and for how many more there is room
abbrev pub kept_of : Inside → Kept
kept_of t =
    record { entries = map entry_of t.entries.items; spare = vec_capacity t.entries - vec_len t.entries }

-- there are no more entries than may be, and what is left are the bytes that they leave
pub record IsBounded (t : Inside) : Type 0 where
  pub few : length t.entries.items ≤ most_entries
  pub left : t.left + transcript_bytes (map entry_of t.entries.items) ≡ most_bytes
