-- What is under the lock, as contracts see it.
use Rattle.std.specs.Prelude.{List, [], Option, Some, None}
use Rattle.core_model.specs.Names.{Name}
use Rattle.core_model.specs.Transcript.{Recorded}

-- the server's roots, and the transcript
pub record Recording : Type 0 where
  pub roots : List Name
  pub entries : List Recorded

-- the roots of the opening value
abbrev pub roots_in : Option Recording → List Name
roots_in None = []
roots_in (Some recording) = recording.roots
