-- Where the first head of some bytes ends.
use Rattle.std.specs.Prelude.{◌≡◌, ℕ, ◌+◌, ◌-◌, ◌<◌, ◌≤◌, List, [], ◌∷◌, length, take, drop}
use Rattle.http_heads.specs.declared.cutting.Cut.{Cut}
use Rattle.http_heads.specs.declared.cutting.Cut.TheVariants as cut
use Rattle.http_heads.specs.declared.cutting.TheConstants.{HEAD_BYTES}

-- CR LF CR LF: the end of a line, and an empty line
abbrev pub blank : List ℕ
blank = 13 ∷ 10 ∷ 13 ∷ 10 ∷ []

-- CR LF CR LF stands there
pub record BlankAt (bytes : List ℕ) (place : ℕ) : Type 0 where
  pub fits : place + 4 ≤ length bytes
  pub reads : take 4 (drop place bytes) ≡ blank

-- no empty line ends within so many of the first bytes
abbrev pub NoEndWithin : List ℕ → ℕ → Type 0
NoEndWithin bytes count = (place : ℕ) → place + 4 ≤ count → ¬ (BlankAt bytes place)

-- the first empty line of the bytes ends there
pub record EndsAt (bytes : List ℕ) (end : ℕ) : Type 0 where
  pub long : 4 ≤ end
  pub is_blank : BlankAt bytes (end - 4)
  pub is_first : NoEndWithin bytes (end - 1)

-- the first head has that length; or no head ends within the most bytes of one; or there are fewer bytes, and
-- no head ends within them
abbrev pub Cuts : List ℕ → Cut → Type 0
Cuts bytes (cut.Head end) = (end ≤ HEAD_BYTES) × EndsAt bytes end
Cuts bytes cut.TooLong = (HEAD_BYTES ≤ length bytes) × NoEndWithin bytes HEAD_BYTES
Cuts bytes cut.Partial = (length bytes < HEAD_BYTES) × NoEndWithin bytes (length bytes)
