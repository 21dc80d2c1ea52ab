-- A text with something else in the place of some of its ranges.
use Rattle.std.specs.Prelude.{◌≡◌, ℕ, List, [], ◌∷◌, ◌++◌, length, drop, Bool, true, ◌&&◌, nat_le, if◌then◌else◌}
use Rattle.std.specs.List.{slice_range}
use Rattle.text_splices.specs.declared.splice.Splice.{Splice}

-- the splice begins at a place or behind it, and lies in the text
abbrev pub fits : List ℕ → ℕ → Splice → Bool
fits text at s = nat_le at s.start && nat_le s.start s.end && nat_le s.end (length text)

-- the text from a place up to the end of a splice, with its replacement; nothing where it doesn't fit
abbrev pub piece_of : List ℕ → ℕ → Splice → List ℕ
piece_of text at s = if fits text at s then slice_range text at s.start ++ s.by else []

-- where the text goes on
abbrev pub behind : List ℕ → ℕ → Splice → ℕ
behind text at s = if fits text at s then s.end else at

-- the text from a place on, spliced
abbrev pub spliced_from : List ℕ → ℕ → List Splice → List ℕ
spliced_from text at [] = drop at text
spliced_from text at (s ∷ ss) = piece_of text at s ++ spliced_from text (behind text at s) ss

-- the text, spliced
abbrev pub splice_of : List ℕ → List Splice → List ℕ
splice_of text ss = spliced_from text 0 ss

-- each begins where the one before it ended or later, the first at a place or behind it, and all lie in the text
abbrev pub AreRising : List ℕ → ℕ → List Splice → Type 0
AreRising text at [] = Unit {0}
AreRising text at (s ∷ ss) = (fits text at s ≡ true) × AreRising text s.end ss

-- those that are not left out
abbrev pub fitting : List ℕ → ℕ → List Splice → List Splice
fitting text at [] = []
fitting text at (s ∷ ss) = if fits text at s then s ∷ fitting text s.end ss else fitting text at ss
