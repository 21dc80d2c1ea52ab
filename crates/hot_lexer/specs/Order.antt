-- Where tokens stand.
use Rattle.std.specs.Prelude.{ℕ, ◌+◌, ◌≤◌, List, [], ◌∷◌}
use Rattle.module_semantics.specs.Token.{Lexeme}

-- each token has a byte or more, and stands between two places and after the token before it
abbrev pub AreBetween : ℕ → ℕ → List Lexeme → Type 0
AreBetween start end [] = start ≤ end
AreBetween start end (t ∷ ts) = (start ≤ t.at) × (1 ≤ t.len) × AreBetween (t.at + t.len) end ts
