-- How the path of a file is written as the name of a module, and read back: a byte that no name has is `.-` and its two
-- hexadecimal digits, and so is a `.` before a `-`.
use Rattle.std.specs.Prelude.{◌≡◌, ◌/◌, ◌%◌, ◌+◌, ◌*◌, ℕ, List, [], ◌∷◌, ◌++◌, Bool, true, not, ◌&&◌, ◌||◌, ◌==◌, nat_eq}
use Rattle.std.specs.Prelude.{if◌then◌else◌, Option, MatchOption}
use Rattle.std.specs.Borrow.{Bor}
use Rattle.std.specs.List.{starts_with}
use Rattle.std.specs.Char.{digit_value, is_digit}
use Rattle.std.specs.Fmt.{digit_glyph}
use Rattle.hmr_types.specs.ModName.{is_segment_byte, slash}

-- the two bytes that begin an escape
abbrev pub dot : ℕ
dot = 46

abbrev pub dash : ℕ
dash = 45

-- the text has a dash first
abbrev pub begins_dash : List ℕ → Bool
begins_dash text = starts_with nat_eq text (dash ∷ [])

-- whether a byte of a path stands for itself, before the bytes that follow it
abbrev pub stands : ℕ → List ℕ → Bool
stands b rest = (b == slash) || (is_segment_byte b && not ((b == dot) && begins_dash rest))

-- the upper-case hexadecimal digit of a number below 16
abbrev pub hex_digit : ℕ → ℕ
hex_digit = digit_glyph true

-- the escape of a byte
abbrev pub escape : ℕ → List ℕ
escape b = dot ∷ dash ∷ hex_digit (b / 16) ∷ hex_digit (b % 16) ∷ []

-- what a byte of a path is written as, before the bytes that follow it
abbrev pub encoded_byte : ℕ → List ℕ → List ℕ
encoded_byte b rest = if stands b rest then b ∷ [] else escape b

-- what a path is written as
unfoldable pub encoded : List ℕ → List ℕ
encoded [] = []
encoded (b ∷ bs) = encoded_byte b bs ++ encoded bs

-- the four bytes are `.-` and two hexadecimal digits
abbrev pub is_escape : ℕ → ℕ → ℕ → ℕ → Bool
is_escape a b high low = (a == dot) && (b == dash) && is_digit high 16 && is_digit low 16

-- the path that a text is written for: each escape is its byte, and any other byte stands for itself
unfoldable pub decoded : List ℕ → List ℕ
decoded [] = []
decoded (a ∷ []) = a ∷ []
decoded (a ∷ b ∷ []) = a ∷ b ∷ []
decoded (a ∷ b ∷ c ∷ []) = a ∷ b ∷ c ∷ []
decoded (a ∷ b ∷ high ∷ low ∷ rest) =
    if is_escape a b high low then (16 * digit_value high + digit_value low) ∷ decoded rest
    else a ∷ decoded (b ∷ high ∷ low ∷ rest)

-- the first byte of the path is the text's own first byte
abbrev pub KeepsFirst : List ℕ → Type 0
KeepsFirst [] = Unit {0}
KeepsFirst (b ∷ rest) = decoded (b ∷ rest) ≡ b ∷ decoded rest

-- the text begins with an escape of this byte and goes on with this rest, or begins with no escape
abbrev pub SplitsEscape : List ℕ → Option (ℕ × Bor (List ℕ)) → Type 0
SplitsEscape text r = MatchOption r (KeepsFirst text) (λ x. decoded text ≡ x.0 ∷ decoded x.1.now)

-- each byte stands for itself
abbrev pub IsPlain : List ℕ → Type 0
IsPlain [] = Unit {0}
IsPlain (b ∷ bs) = (stands b bs ≡ true) × IsPlain bs
