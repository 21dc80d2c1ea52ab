-- What a listing is.
use Rattle.std.specs.Prelude.{ℕ, ◌≤◌, List, length, All}
use Rattle.std.specs.Ordering.{nat_cmp}
use Rattle.std.specs.Cmp.Lexicographic.{slice_cmp}
use Rattle.std.specs.List.Sorted.{IsStrictlySortedBy}
use Rattle.std.specs.Map.{keys_of, values_of}

-- the most bytes of a text
abbrev pub text_bytes : ℕ
text_bytes = 131072

-- the most names
abbrev pub most_names : ℕ
most_names = 8192

-- the names rise strictly by bytes
abbrev pub Rises : {X : Type 0} → List (List ℕ × X) → Type 0
Rises rows = IsStrictlySortedBy (slice_cmp nat_cmp) (keys_of rows)

-- each text is within the limit
abbrev pub AreShort : List (List ℕ × List ℕ) → Type 0
AreShort rows = All (λ text. length text ≤ text_bytes) (values_of rows)
