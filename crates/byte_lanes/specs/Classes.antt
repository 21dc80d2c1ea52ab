-- The classes of bytes, and what a mask says of a class.
use Rattle.std.specs.Prelude.{◌≡◌, ℕ, ◌<◌, List, length, slice_index, Bool, ◌||◌, ◌==◌, if◌then◌else◌}
use Rattle.std.specs.Int.{bit_at}
use Rattle.module_semantics.specs.Bytes.{is_name_byte, is_blank, is_quote, is_line_end}
use Rattle.byte_lanes.specs.declared.class.Class.{Class}
use Rattle.byte_lanes.specs.declared.class.Class.TheVariants.{Word, Space, Newline, Quote, Star, StringStop}

-- an LF
unfoldable pub is_newline : ℕ → Bool
is_newline b = b == 10

-- `'`, `"` or a backslash
unfoldable pub is_quoting : ℕ → Bool
is_quoting b = is_quote b || b == 92

-- `*`
unfoldable pub is_star : ℕ → Bool
is_star b = b == 42

-- a quote, a backslash, a CR or an LF
unfoldable pub stops_string : ℕ → Bool
stops_string b = is_quoting b || is_line_end b

-- whether a byte is in a class
abbrev pub is_in : Class → ℕ → Bool
is_in Word b = is_name_byte b
is_in Space b = is_blank b
is_in Newline b = is_newline b
is_in Quote b = is_quoting b
is_in Star b = is_star b
is_in StringStop b = stops_string b

-- bit i of the mask is set exactly where byte i passes
abbrev pub IsMaskOf : (ℕ → Bool) → List ℕ → ℕ → Type 0
IsMaskOf p bytes mask = (i : ℕ) → i < length bytes
    → bit_at mask i ≡ (if p (slice_index bytes i) then 1 else 0)
