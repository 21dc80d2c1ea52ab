-- How long a message may be.
use Rattle.std.specs.Prelude.{ℕ, List, [], ◌∷◌, length, Bool, false, nat_lt, Option, Some, None}

-- the most bytes of a message
abbrev pub message_bytes : ℕ
message_bytes = 16777216

-- whether a message is longer
abbrev pub is_long : List ℕ → Bool
is_long message = nat_lt message_bytes (length message)

-- whether the next message that is told is longer
abbrev pub is_first_long : Option (List (List ℕ)) → Bool
is_first_long None = false
is_first_long (Some []) = false
is_first_long (Some (message ∷ messages)) = is_long message
