-- The line of a text at which a fault stands, and what is put below it.
use Rattle.std.specs.Prelude.{ℕ, List, [], ◌∷◌, ◌-◌, ◌==◌, ◌&&◌, nat_le, nat_lt, take, if◌then◌else◌}
use Rattle.std.specs.List.{flat_map}
use Rattle.live_lines.specs.declared.fault_line.TheConstants.{SHOWN_BYTES}
use Rattle.std.specs.Str.Lossy.{utf8_lossy}

-- what stands behind so many line feeds
abbrev pub after_lines : ℕ → List ℕ → List ℕ
after_lines n [] = []
after_lines n (b ∷ bytes) =
    if n == 0 then b ∷ bytes else if b == 10 then after_lines (n - 1) bytes else after_lines n bytes

-- the first line, without what ends it
abbrev pub first_line : List ℕ → List ℕ
first_line [] = []
first_line (b ∷ bytes) = if b == 10 then [] else b ∷ first_line bytes

-- the line of this number, from 1, without what ends it
abbrev pub line_in : List ℕ → ℕ → List ℕ
line_in text line = if line == 0 then [] else first_line (after_lines (line - 1) text)

-- its first 200 bytes, with the sign of Unicode for what is no UTF-8
abbrev pub line_at : List ℕ → ℕ → List ℕ
line_at text line = utf8_lossy (take SHOWN_BYTES (line_in text line))

-- what stands below a byte of the line before the caret: a tab below a tab, a space below each other character
abbrev pub blank_below : ℕ → List ℕ
blank_below b =
    if b == 9 then 9 ∷ [] else if nat_le 128 b && nat_lt b 192 then [] else 32 ∷ []

-- what stands before the caret, at a column from 1
abbrev pub before_caret : List ℕ → ℕ → List ℕ
before_caret line column = flat_map blank_below (take (column - 1) line)
