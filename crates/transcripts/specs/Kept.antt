-- A transcript, as contracts see it.
use Rattle.std.specs.Prelude.{ℕ, List}
use Rattle.core_model.specs.Transcript.{Recorded}

-- the transcript, and for how many more entries there is room
pub record Kept : Type 0 where
  pub entries : List Recorded
  pub spare : ℕ
