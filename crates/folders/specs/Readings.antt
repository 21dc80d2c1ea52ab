-- What reading a file gives.
use Rattle.std.specs.Prelude.{◌≡◌, ◌<◌, ◌≤◌, ℕ, List, length, Some, ⊤}
use Prim.{⊥}
use Rattle.folders.specs.declared.tree.Reading.{Reading}
use Rattle.folders.specs.declared.tree.Reading.TheVariants.{Text, TooLong, Gone}
use Rattle.folders.specs.Files.{text_at}

-- a text that was read is within the limit
abbrev pub IsWithin : ℕ → Reading → Type 0
IsWithin limit (Text text) = length text.items ≤ limit
IsWithin limit TooLong = ⊤
IsWithin limit Gone = ⊤

-- of a file among those that are told: its bytes, or that they are more than the limit; it isn't gone
abbrev pub HasRead : List (List ℕ × List ℕ) → List ℕ → ℕ → Reading → Type 0
HasRead files path limit (Text text) = text_at files path ≡ Some text.items
HasRead files path limit TooLong = (text : List ℕ) × (text_at files path ≡ Some text) × (limit < length text)
HasRead files path limit Gone = ⊥
