-- Names in a list of a message.
use Rattle.std.specs.Prelude.{ℕ, Bool, true, List, [], ◌∷◌, ◌&&◌}
use Rattle.std.specs.Ordering.{nat_cmp, is_lt}
use Rattle.std.specs.Cmp.Lexicographic.{slice_cmp}

-- each name is below the next, by bytes
abbrev pub rise : List (List ℕ) → Bool
rise [] = true
rise (n ∷ []) = true
rise (n ∷ (m ∷ names)) = is_lt (slice_cmp nat_cmp n m) && rise (m ∷ names)
