-- What a table of served or live versions is: names that rise, each with a version.
use Rattle.std.specs.Prelude.{ℕ, ◌≤◌, List, [], ◌∷◌, Bool, true, ◌&&◌, nat_le, All}
use Rattle.std.specs.Ordering.{is_lt, nat_cmp}
use Rattle.std.specs.Cmp.Lexicographic.{slice_cmp}
use Rattle.std.specs.List.{list_all}
use Rattle.std.specs.List.Sorted.{IsStrictlySortedBy}
use Rattle.std.specs.Map.{keys_of}

-- whether each name is below the next, by bytes
abbrev pub rises : List (List ℕ × ℕ) → Bool
rises [] = true
rises (p ∷ []) = true
rises (p ∷ (q ∷ more)) = is_lt (slice_cmp nat_cmp p.0 q.0) && rises (q ∷ more)

-- whether a number is that of a counted edit
abbrev pub is_version : ℕ → Bool
is_version v = nat_le 1 v && nat_le v 9007199254740991

-- whether pairs of a name and a version are a table
abbrev pub is_table : List (List ℕ × ℕ) → Bool
is_table pairs = rises pairs && list_all (λ p. is_version p.1) pairs

-- the same as facts: the names are in order and different, and each number is a version
pub record IsTable (pairs : List (List ℕ × ℕ)) : Type 0 where
  pub rising : IsStrictlySortedBy (slice_cmp nat_cmp) (keys_of pairs)
  pub versions : All (λ p. (1 ≤ p.1) × (p.1 ≤ 9007199254740991)) pairs
