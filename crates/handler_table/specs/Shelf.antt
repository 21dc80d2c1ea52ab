-- Closures by their label.
use Rattle.std.specs.Prelude.{◌≡◌, ℕ, zero, suc, Bool, List, [], ◌∷◌, ◌++◌, map, Option, bytes_eq, find}
use Rattle.std.specs.Set.{remove_key}
use Rattle.handler_table.specs.Held.{Closure}

-- whether a closure has this label
abbrev pub has_label : {F : Type 0} → List ℕ → Closure F → Bool
has_label label h = bytes_eq h.label label

-- the first closure of a label
abbrev pub first_of : {F : Type 0} → List ℕ → List (Closure F) → Option (Closure F)
first_of label hs = find (has_label label) hs

-- the closures without the first of a label
abbrev pub without_first : {F : Type 0} → List ℕ → List (Closure F) → List (Closure F)
without_first label hs = remove_key (has_label label) hs

-- the labels of closures with their numbers
abbrev pub marks_of : {F : Type 0} → List (Closure F) → List (List ℕ × ℕ)
marks_of hs = map (λ h. (h.label, h.number)) hs

-- a label with so many numbers, from the first on
abbrev pub numbered : List ℕ → ℕ → ℕ → List (List ℕ × ℕ)
numbered label first zero = []
numbered label first (suc count) = (label, first) ∷ numbered label (suc first) count

-- the closures of before, with others behind them
pub record Extends {F : Type 0} (old new : List (Closure F)) : Type 0 where
  pub added : List (Closure F)
  pub is : new ≡ old ++ added
