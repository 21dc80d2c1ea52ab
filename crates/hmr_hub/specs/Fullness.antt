-- When a transcript is nearly full.
use Rattle.std.specs.Prelude.{◌≤◌, ◌<◌, ◌⊎◌, ℕ, List, length}
use Rattle.core_model.specs.Transcript.{Recorded, most_entries, transcript_bytes}

-- the bytes past which an entry of a message's size has no place: 256 MiB without 16 MiB and 64 bytes
abbrev pub nearly_most_bytes : ℕ
nearly_most_bytes = 251_658_176

-- no entry has a place, or none of a message's size
abbrev pub IsNearlyFull : List Recorded → Type 0
IsNearlyFull entries = (most_entries ≤ length entries) ⊎ (nearly_most_bytes < transcript_bytes entries)
