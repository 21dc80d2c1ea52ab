-- What the ending of a session tells of what went wrong.
use Rattle.std.specs.Prelude.{Bool, true, false, not, ◌||◌, Option, Some, None, is_some}
use Rattle.sessions.specs.declared.ended.Ended.{Ended}
use Rattle.sessions.specs.declared.ended.Ended.TheVariants.{Closed, LinkFault, BadMessage, Stopped}
use Rattle.sessions.specs.declared.ended.Ended.TheVariants.{NoMemory, Unexpected, InstancesFull}

-- a session ended since there was no memory
abbrev pub ended_for_memory : Option Ended → Bool
ended_for_memory None = false
ended_for_memory (Some Closed) = false
ended_for_memory (Some LinkFault) = false
ended_for_memory (Some (BadMessage fault)) = false
ended_for_memory (Some Stopped) = false
ended_for_memory (Some NoMemory) = true
ended_for_memory (Some (Unexpected wanted got)) = false
ended_for_memory (Some InstancesFull) = false

-- a session ended by a fault of its link
abbrev pub ended_by_link : Option Ended → Bool
ended_by_link None = false
ended_by_link (Some Closed) = false
ended_by_link (Some LinkFault) = true
ended_by_link (Some (BadMessage fault)) = false
ended_by_link (Some Stopped) = false
ended_by_link (Some NoMemory) = false
ended_by_link (Some (Unexpected wanted got)) = false
ended_by_link (Some InstancesFull) = false

-- a session was given up, or ended by a fault of its link
abbrev pub is_faulty_end : Option Ended → Bool
is_faulty_end ended = not (is_some ended) || ended_by_link ended
