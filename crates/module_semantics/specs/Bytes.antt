-- Classes of bytes.
use Rattle.std.specs.Prelude.{ℕ, suc, List, [], ◌∷◌, Bool, ◌&&◌, ◌||◌, ◌==◌, not, nat_le, if◌then◌else◌}

-- a space, a tab, a CR or an LF
unfoldable pub is_blank : ℕ → Bool
is_blank b = b == 32 || b == 9 || b == 13 || b == 10

-- `0` to `9`
unfoldable pub is_digit : ℕ → Bool
is_digit b = nat_le 48 b && nat_le b 57

-- a letter, `_` or `$`
unfoldable pub is_name_start : ℕ → Bool
is_name_start b = (nat_le 97 b && nat_le b 122) || (nat_le 65 b && nat_le b 90) || b == 95 || b == 36

-- what may stand in a name
unfoldable pub is_name_byte : ℕ → Bool
is_name_byte b = is_name_start b || is_digit b

-- `"` or `'`
unfoldable pub is_quote : ℕ → Bool
is_quote b = b == 34 || b == 39

-- an LF or a CR, which no text may have as it is
unfoldable pub is_line_end : ℕ → Bool
is_line_end b = b == 10 || b == 13

-- what may follow a backslash: `n`, `t`, `r`, a backslash and the two quotes
unfoldable pub is_escape : ℕ → Bool
is_escape b = b == 110 || b == 116 || b == 114 || b == 92 || b == 39 || b == 34

-- what a backslash and this byte stand for
unfoldable pub unescape : ℕ → ℕ
unescape b = if b == 110 then 10 else if b == 116 then 9 else if b == 114 then 13 else b

-- any byte but LF
unfoldable pub not_line_feed : ℕ → Bool
not_line_feed b = not (b == 10)

-- any byte but LF and CR
unfoldable pub not_line_end : ℕ → Bool
not_line_end b = not (is_line_end b)

-- how many bytes of the class stand at the front
unfoldable pub span : (ℕ → Bool) → List ℕ → ℕ
span p [] = 0
span p (b ∷ bs) = if p b then suc (span p bs) else 0
