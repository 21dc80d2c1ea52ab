-- What a StringLiteral of ECMA-262 is, byte by byte: a quote, bytes, and the first byte that is the same
-- quote and that no backslash escapes. Between the two stands no CR or LF that no backslash escapes; an
-- escaped CR takes an LF with it.
use Rattle.std.specs.Prelude.{ℕ, suc, List, [], ◌∷◌, Bool, ◌==◌, ◌||◌, if◌then◌else◌, Option, Some, None}
use Rattle.std.specs.Prelude.{drop}
use Rattle.es_scan.specs.declared.string_literal.Inside.{Inside}
use Rattle.es_scan.specs.declared.string_literal.Inside.TheVariants.{Plain, Escaped, Returned}
use Rattle.es_scan.specs.declared.string_literal.Move.{Move}
use Rattle.es_scan.specs.declared.string_literal.Move.TheVariants.{Ends, Goes, Breaks}

-- `"` or `'`
abbrev pub is_quote : ℕ → Bool
is_quote b = (b == 34) || (b == 39)

-- what a byte of a literal of this quote does
abbrev pub turn : ℕ → Inside → ℕ → Move
turn q Escaped b = if b == 13 then Goes Returned else Goes Plain
turn q Plain b = if b == q then Ends else if b == 92 then Goes Escaped
    else if b == 10 then Breaks else if b == 13 then Breaks else Goes Plain
turn q Returned b = if b == q then Ends else if b == 92 then Goes Escaped
    else if b == 13 then Breaks else Goes Plain

-- the end behind a byte at a place, where the rest is read so
abbrev pub moved : ℕ → Move → (Inside → Option ℕ) → Option ℕ
moved at Ends rest = Some (suc at)
moved at (Goes inside) rest = rest inside
moved at Breaks rest = None

-- where a literal ends whose next byte stands at a place
unfoldable pub end_from : ℕ → ℕ → Inside → List ℕ → Option ℕ
end_from at q inside [] = None
end_from at q inside (b ∷ bs) = moved at (turn q inside b) (λ next. end_from (suc at) q next bs)

-- where a literal ends that begins with the first byte, which stands at a place
abbrev pub literal_from : ℕ → List ℕ → Option ℕ
literal_from at [] = None
literal_from at (q ∷ bs) = end_from (suc at) q Plain bs

-- where a literal of the text ends that begins at a place
unfoldable pub literal_at : List ℕ → ℕ → Option ℕ
literal_at text at = literal_from at (drop at text)
