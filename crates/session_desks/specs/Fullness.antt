-- That a transcript is nearly full, as a test.
use Rattle.std.specs.Prelude.{◌||◌, nat_le, nat_lt, Bool, List, length}
use Rattle.core_model.specs.Transcript.{Recorded, most_entries, transcript_bytes}
use Rattle.hmr_hub.specs.Fullness.{nearly_most_bytes}

-- no entry has a place, or none of a message's size
abbrev pub is_nearly_full : List Recorded → Bool
is_nearly_full entries =
    nat_le most_entries (length entries) || nat_lt nearly_most_bytes (transcript_bytes entries)
