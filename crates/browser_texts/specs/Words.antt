-- Words of a text with others in their place.
use Rattle.std.specs.Prelude.{ℕ, ◌+◌, List, [], ◌∷◌, length, drop, Bool, ◌&&◌, ◌||◌, ◌==◌, nat_eq, nat_le, if◌then◌else◌}
use Rattle.std.specs.List.{starts_with}
use Rattle.text_splices.specs.declared.splice.Splice.{Splice}

-- the word stands at a place of the text
abbrev pub stands_at : List ℕ → ℕ → List ℕ → Bool
stands_at text at word = nat_le at (length text) && starts_with nat_eq (drop at text) word

-- another text in the place of a word, where the word stands there
abbrev pub word_splices : List ℕ → ℕ → List ℕ → List ℕ → List Splice
word_splices text at word by =
    if stands_at text at word then (record { start = at; end = at + length word; by = by }) ∷ [] else []

-- a space, a tab, LF or CR
abbrev pub is_blank : ℕ → Bool
is_blank b = (b == 32) || (b == 9) || (b == 10) || (b == 13)

-- the first byte that is no blank, 0 where there is none
abbrev pub first_visible : List ℕ → ℕ
first_visible [] = 0
first_visible (b ∷ bs) = if is_blank b then first_visible bs else b
