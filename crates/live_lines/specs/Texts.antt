-- What the lines of a terminal are made of.
use Rattle.std.specs.Prelude.{ℕ, List, [], ◌∷◌, ◌++◌, ◌==◌, ◌||◌, ◌&&◌, not, codes, decimal, nat_lt, nat_le}
use Rattle.std.specs.Prelude.{if◌then◌else◌}
use Rattle.live_lines.specs.declared.clock.Clock.{Clock}
use Rattle.live_lines.specs.declared.line_text.Style.{Style}
use Rattle.live_lines.specs.declared.line_text.Style.TheVariants.{Plain, Coloured}

-- a number below 100 in two digits
abbrev pub two_digits : ℕ → List ℕ
two_digits n = if nat_lt n 10 then codes "0" ++ decimal n else decimal n

-- hours, minutes and seconds
abbrev pub clock_text : Clock → List ℕ
clock_text c = two_digits c.hour ++ codes ":" ++ two_digits c.minute ++ codes ":" ++ two_digits c.second

-- what begins a terminal's command
abbrev pub escape : List ℕ
escape = 27 ∷ codes "["

-- a colour begins
abbrev pub on : Style → List ℕ → List ℕ
on Plain code = []
on Coloured code = escape ++ code ++ codes "m"

-- a colour ends
abbrev pub off : Style → List ℕ
off Plain = []
off Coloured = escape ++ codes "0m"

-- a byte as it may stand on a terminal: a tab, or none of the control bytes
abbrev pub shown_byte : ℕ → List ℕ
shown_byte b = (if b == 9 || (nat_le 32 b && not (b == 127)) then b else 63) ∷ []

-- the arrow from a cause to a page: U+2192
abbrev pub arrow : List ℕ
arrow = 226 ∷ 134 ∷ 146 ∷ []

-- the dot between the parts of a line: U+00B7
abbrev pub dot : List ℕ
dot = 194 ∷ 183 ∷ []
