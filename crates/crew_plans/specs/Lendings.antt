-- The ends of connections that a net has lent.
use Rattle.std.specs.Prelude.{◌≡◌, ◌+◌, ℕ}

-- So many ends were due to come back, and now so many are. As many as were lent to others still are: each end
-- that was given is due, or was taken back.
abbrev pub Lends : ℕ → ℕ → ℕ → ℕ → Type 0
Lends due due' lent lent' = (others : ℕ) → lent ≡ due + others → lent' ≡ due' + others
