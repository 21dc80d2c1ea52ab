-- What a string of CSS Syntax is, and an address in `url(..)` without quotes, byte by byte, behind its quote or parenthesis:
-- bytes up to the first one that ends it and that no escape took, or up to the end of the text.
use Rattle.std.specs.Prelude.{ℕ, suc, ◌+◌, List, [], ◌∷◌, Bool, ◌==◌, ◌||◌, ◌&&◌, nat_le, if◌then◌else◌, Option, Some, None, drop}
use Rattle.css_scan.specs.declared.outline.Quoting.{Quoting}
use Rattle.css_scan.specs.declared.outline.Quoting.TheVariants.{Double, Single, Bare}
use Rattle.css_scan.specs.declared.address.Inside.{Inside}
use Rattle.css_scan.specs.declared.address.Inside.TheVariants.{Plain, Escaped, Digits, Returned}
use Rattle.css_scan.specs.declared.address.Move.{Move}
use Rattle.css_scan.specs.declared.address.Move.TheVariants.{Ends, Goes, Breaks}

-- LF, CR or form feed
abbrev pub is_line_end : ℕ → Bool
is_line_end b = b == 10 || b == 13 || b == 12

-- a space, a tab or a line end
abbrev pub is_blank : ℕ → Bool
is_blank b = b == 32 || b == 9 || is_line_end b

-- `0` to `9`, `a` to `f`, `A` to `F`
abbrev pub is_hexadecimal : ℕ → Bool
is_hexadecimal b = (nat_le 48 b && nat_le b 57) || (nat_le 97 b && nat_le b 102) || (nat_le 65 b && nat_le b 70)

-- ends an address where no escape took it
abbrev pub ends : Quoting → ℕ → Bool
ends Double b = b == 34
ends Single b = b == 39
ends Bare b = b == 41 || is_blank b

-- may not stand in an address where no escape took it
abbrev pub breaks : Quoting → ℕ → Bool
breaks Double b = is_line_end b
breaks Single b = is_line_end b
breaks Bare b = b == 34 || b == 39 || b == 40 || nat_le b 31 || b == 127

-- what a byte does that no escape takes
abbrev pub plain_turn : Quoting → ℕ → Move
plain_turn q b = if ends q b then Ends else if b == 92 then Goes Escaped else if breaks q b then Breaks else Goes Plain

-- what a byte behind a backslash does
abbrev pub escaped_turn : Quoting → ℕ → Move
escaped_turn Bare b = if is_line_end b then Breaks else if is_hexadecimal b then Goes (Digits 1) else Goes Plain
escaped_turn Double b = if b == 13 then Goes Returned else if is_hexadecimal b then Goes (Digits 1) else Goes Plain
escaped_turn Single b = if b == 13 then Goes Returned else if is_hexadecimal b then Goes (Digits 1) else Goes Plain

-- what a byte behind so many digits of an escape does
abbrev pub digits_turn : Quoting → ℕ → ℕ → Move
digits_turn q n b = if is_hexadecimal b && nat_le n 5 then Goes (Digits (n + 1)) else if b == 13 then Goes Returned
    else if is_blank b then Goes Plain else plain_turn q b

-- what a byte behind a CR of an escape does
abbrev pub returned_turn : Quoting → ℕ → Move
returned_turn q b = if b == 10 then Goes Plain else plain_turn q b

abbrev pub turn : Quoting → Inside → ℕ → Move
turn q Plain b = plain_turn q b
turn q Escaped b = escaped_turn q b
turn q (Digits n) b = digits_turn q n b
turn q Returned b = returned_turn q b

-- the end at a place, where the bytes behind it are read so
abbrev pub moved : ℕ → Move → (Inside → Option ℕ) → Option ℕ
moved at Ends rest = Some at
moved at (Goes inside) rest = rest inside
moved at Breaks rest = None

-- where an address ends whose next byte stands at a place
unfoldable pub end_from : ℕ → Quoting → Inside → List ℕ → Option ℕ
end_from at q inside [] = Some at
end_from at q inside (b ∷ bs) = moved at (turn q inside b) (λ next. end_from (suc at) q next bs)

-- where an address of the text ends whose first byte stands at a place
unfoldable pub address_end : List ℕ → ℕ → Quoting → Option ℕ
address_end text from q = end_from from q Plain (drop from text)
