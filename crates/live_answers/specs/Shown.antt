-- Texts of others, as they are shown.
use Rattle.std.specs.Prelude.{ℕ, ◌<◌, ◌≤◌, List, length, All}

-- 80 bytes at most, each a visible character of ASCII
abbrev pub IsShown : List ℕ → Type 0
IsShown text = (length text ≤ 80) × All (λ b. (32 < b) × (b < 127)) text
