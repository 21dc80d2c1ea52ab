-- Where the bytes of a text stand once it is spliced.
use Rattle.std.specs.Prelude.{◌≡◌, ◌≤◌, ℕ, ◌+◌, ◌-◌, List, [], ◌∷◌, length, take, All, Bool, ◌==◌, nat_lt, if◌then◌else◌}
use Rattle.std.specs.List.{count_by, slice_range}
use Rattle.text_splices.specs.declared.splice.Splice.{Splice}

-- the byte at a place lies in no range
abbrev pub IsOutside : List Splice → ℕ → Type 0
IsOutside ss k = All (λ s. s.start ≤ k → s.end ≤ k) ss

-- how many bytes the spliced text has between a place and a byte outside of all ranges
abbrev pub place_from : ℕ → List Splice → ℕ → ℕ
place_from at [] k = k - at
place_from at (s ∷ ss) k =
    if nat_lt k s.start then k - at else (s.start - at) + (length s.by + place_from s.end ss k)

-- where the byte stands in the spliced text
abbrev pub place_of : List Splice → ℕ → ℕ
place_of ss k = place_from 0 ss k

-- LF
abbrev pub ends_line : ℕ → Bool
ends_line b = b == 10

-- how many lines end before a place
abbrev pub lines_before : List ℕ → ℕ → ℕ
lines_before text at = count_by ends_line (take at text)

-- the replacement has as many line feeds as its range
abbrev pub KeepsLines : List ℕ → Splice → Type 0
KeepsLines text s = count_by ends_line s.by ≡ count_by ends_line (slice_range text s.start s.end)
