-- What the name of a module is: a slash, and segments with a slash between each two.
use Rattle.std.specs.Prelude.{[], ◌∷◌, ◌&&◌, ◌||◌, ◌==◌}
use Rattle.std.specs.Prelude.{ℕ, List, length, Bool, false, not, nat_eq, nat_le, codes}
use Rattle.std.specs.Cmp.Lexicographic.{pointwise}
use Rattle.std.specs.List.{list_all, slice_split}

-- the slash
abbrev pub slash : ℕ
slash = 47

-- the parts of a text between its slashes, one more than it has slashes
abbrev pub parts : List ℕ → List (List ℕ)
parts = slice_split (λ b. b == slash)

-- whether two texts have the same bytes
abbrev pub is_text : List ℕ → List ℕ → Bool
is_text = pointwise nat_eq

-- the part that stands for the place itself
abbrev pub here : List ℕ
here = codes "."

-- the part that stands for the place above
abbrev pub above : List ℕ
above = codes ".."

abbrev pub between : ℕ → ℕ → ℕ → Bool
between low high b = nat_le low b && nat_le b high

-- a letter, a digit, `_`, `.` or `-`
unfoldable pub is_segment_byte : ℕ → Bool
is_segment_byte b =
    between 65 90 b || between 97 122 b || between 48 57 b || (b == 95) || (b == 46) || (b == 45)

-- one byte or more of a segment, other than `.` and `..`
abbrev pub is_segment : List ℕ → Bool
is_segment part =
    not (is_text [] part) && not (is_text here part) && not (is_text above part)
    && list_all is_segment_byte part

-- a slash, and then parts that are segments: at most 255 bytes
abbrev pub is_name : List ℕ → Bool
is_name [] = false
is_name (b ∷ bs) = (b == slash) && nat_le (length (b ∷ bs)) 255 && list_all is_segment (parts bs)
