-- Histories: entries in order, each with the number of the pass that made it.
use Rattle.std.specs.Prelude.{◌≡◌, ◌==◌, ◌||◌, ◌∷◌, [], ◌++◌, ℕ, List, Bool, false, length}
use Rattle.std.specs.List.{filter}
use lib.Dec.{ltb}
use mathlib.Core.Bool.{cond}

-- whether the number is among these
abbrev pub has : ℕ → List ℕ → Bool
has k [] = false
has k (x ∷ xs) = (k == x) || has k xs

-- the entries under these numbers, in order
abbrev pub calls : {E : Type 0} → List ℕ → List (ℕ × E) → List (ℕ × E)
calls ks entries = filter (λ e. has e.0 ks) entries

-- the history after a call: one entry longer where the entry was recorded
abbrev pub grown : {E : Type 0} → List (ℕ × E) → ℕ → E → Bool → List (ℕ × E)
grown entries by entry recorded = cond recorded (entries ++ (by, entry) ∷ []) entries

-- the longer of two, the first where they are as long
abbrev pub longer : {X : Type 0} → List X → List X → List X
longer xs ys = cond (ltb (length xs) (length ys)) ys xs

-- what was seen begins the history, and no later entry is under a number that is known
pub record Past {E : Type 0} (history seen : List (ℕ × E)) (known : List ℕ) : Type 0 where
  pub rest : List (ℕ × E)
  pub whole : history ≡ seen ++ rest
  pub quiet : calls known rest ≡ []
