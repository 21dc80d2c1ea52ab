-- The size of a message, and what an answer adds to what a desk tells.
use Rattle.std.specs.Prelude.{ℕ, ◌+◌, Bool, true, false, List, [], ◌∷◌, ◌++◌, length}
use Rattle.std.specs.Prelude.{sum_by, Option, Some, None, Result, Ok, Err}
use Rattle.update_msgs.specs.declared.message.ClientMsg.{ClientMsg}
use Rattle.update_msgs.specs.declared.message.ClientMsg.TheVariants as msg
use Rattle.update_msgs.specs.declared.message.ServerMsg.{ServerMsg}
use Rattle.update_msgs.specs.declared.desk.HubStop.{HubStop}
use Rattle.update_msgs.specs.declared.desk.HubStop.TheVariants.{TranscriptFull, NoMemory}

abbrev pub option_length : Option (List ℕ) → ℕ
option_length None = 0
option_length (Some text) = length text

-- how many bytes the names and texts of a message have together
abbrev pub bytes_of : ClientMsg → ℕ
bytes_of (msg.Hello format roots) = sum_by length roots
bytes_of msg.Ask = 0
bytes_of (msg.Fetch path) = length path
bytes_of (msg.Applied table) = sum_by (λ row. length row.0) table
bytes_of (msg.Aborted cause path from name) = length path + option_length from + option_length name
bytes_of (msg.Invalidate path version message) = length path + length message
bytes_of msg.Bye = 0

-- the transcript had no place
abbrev pub is_full : Result ServerMsg HubStop → Bool
is_full (Ok answer) = false
is_full (Err TranscriptFull) = true
is_full (Err NoMemory) = false

-- an answer is told behind those before; without an answer nothing is
abbrev pub told_after : Option (List (ClientMsg × ServerMsg)) → ClientMsg → Result ServerMsg HubStop
    → Option (List (ClientMsg × ServerMsg))
told_after None m result = None
told_after (Some told) m (Ok answer) = Some (told ++ (m, answer) ∷ [])
told_after (Some told) m (Err stop) = Some told
