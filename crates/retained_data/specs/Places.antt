-- Where a name stands among entries.
use Rattle.std.specs.Prelude.{ℕ, ◌+◌, if◌then◌else◌, List, [], ◌∷◌, bytes_eq}

-- the first place of a name, or the length where it isn't there
unfoldable pub place : {V : Type 0} → List ℕ → List (List ℕ × V) → ℕ
place name [] = 0
place name (e ∷ es) = if bytes_eq e.0 name then 0 else 1 + place name es
