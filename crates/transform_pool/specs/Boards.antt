-- What a board tells.
use Rattle.std.specs.Prelude.{Bool, true, List, ◌++◌, Option, None, Some, Result, Ok, Err}
use Rattle.update_msgs.specs.declared.desk.HubStop.{HubStop}
use Rattle.update_msgs.specs.declared.desk.HubStop.TheVariants.{TranscriptFull, NoMemory}

-- more is told behind what was told; a board that tells nothing tells nothing
abbrev pub told_more : {A : Type 0} → Option (List A) → List A → Option (List A)
told_more None more = None
told_more (Some told) more = Some (told ++ more)

-- whether a board is full after this refusal, where it was full before or not
abbrev pub full_with : Bool → HubStop → Bool
full_with full TranscriptFull = true
full_with full NoMemory = full

-- after an answer
abbrev pub full_after : {T : Type 0} → Bool → Result T HubStop → Bool
full_after full (Ok answer) = full
full_after full (Err stop) = full_with full stop
