-- Numbers in a record: decimal without leading zeros, 0 included.
use Rattle.std.specs.Prelude.{ℕ, List, codes, Option, Some, if◌then◌else◌}
use Rattle.hmr_types.specs.ModName.{is_text}
use Rattle.play_script.specs.Script.{number_of}

-- the largest number outside a table
abbrev pub largest_count : ℕ
largest_count = 18446744073709551615

-- the number that a word is, where it isn't over the most
abbrev pub count_of : ℕ → List ℕ → Option ℕ
count_of most word = if is_text word (codes "0") then Some 0 else number_of most word
