-- How places of a text are counted.
use Rattle.std.specs.Prelude.{ℕ, Bool, ◌==◌, List, take}
use Rattle.std.specs.List.{count_by}

-- LF
abbrev pub ends_line : ℕ → Bool
ends_line b = b == 10

-- how many lines end before a place
abbrev pub lines_before : List ℕ → ℕ → ℕ
lines_before text at = count_by ends_line (take at text)
