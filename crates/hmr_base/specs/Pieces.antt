-- How many bytes one call moves, where a source or a sink tells it.
use Rattle.std.specs.Prelude.{◌≡◌, ◌+◌, ◌-◌, ◌^◌, ⊤}
use Rattle.std.specs.Prelude.{ℕ, min, ltb, List, length, Bool, false, Option, Some, None}
use Rattle.std.specs.Io.KnownBytes.{Consumes}

-- a piece of what is left, as long as fits the room
abbrev pub GivesPiece : Option ℕ → Option (List ℕ) → ℕ → ℕ → Type 0
GivesPiece None left room n = ⊤
GivesPiece (Some piece) None room n = ⊤
GivesPiece (Some piece) (Some left) room n = n ≡ min (min (length left) room) piece

-- a piece of what is offered
abbrev pub TakesPiece : Option ℕ → ℕ → ℕ → Type 0
TakesPiece None offered n = ⊤
TakesPiece (Some piece) offered n = n ≡ min offered piece

-- the piece of what is offered doesn't fit the room, beside the bytes that were taken
abbrev pub is_full_for : Option ℕ → Option ℕ → Option ℕ → ℕ → Bool
is_full_for (Some room) (Some taken) (Some piece) offered = ltb room (taken + min offered piece)
is_full_for room taken piece offered = false

-- the count of the bytes that were taken rises by these, up to the largest of its type
abbrev pub CountsUp : Option ℕ → Option ℕ → ℕ → Type 0
CountsUp None now n = now ≡ None
CountsUp (Some taken) now n = now ≡ Some (min (taken + n) (2 ^ 64 - 1))

-- after any answer what a source has left is an end of what it had
abbrev pub LeavesEnd : Option (List ℕ) → Option (List ℕ) → Type 0
LeavesEnd old new = (taken : List ℕ) × Consumes old new taken
