-- How many starts went on, by the kind of their job.
use Rattle.std.specs.Prelude.{ℕ, ◌+◌, List, [], ◌∷◌, slice_index, slice_set}

-- how many kinds of jobs there are
abbrev pub kinds : ℕ
kinds = 3

-- below so many starts another may begin
abbrev pub most_starts : ℕ
most_starts = 1000

-- no start went on
abbrev pub none_begun : List ℕ
none_begun = 0 ∷ 0 ∷ 0 ∷ []

-- one more start of this kind
abbrev pub one_more : List ℕ → ℕ → List ℕ
one_more begun kind = slice_set begun kind (slice_index begun kind + 1)
