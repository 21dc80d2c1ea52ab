-- How many jobs of each kind a spawner has begun.
use Rattle.std.specs.Prelude.{◌≡◌, ◌+◌, ℕ, List, [], ◌∷◌}

-- so many workers, sessions and clients more
abbrev pub HasBegun : ℕ → ℕ → ℕ → List ℕ → List ℕ → Type 0
HasBegun workers sessions clients old new = (w s c : ℕ) → old ≡ w ∷ s ∷ c ∷ []
    → new ≡ (w + workers) ∷ (s + sessions) ∷ (c + clients) ∷ []
