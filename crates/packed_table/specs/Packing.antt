-- How rows are packed: of each the version in 8 bytes, the lowest first, then the length of the name in one,
-- then the bytes of the name.
use Rattle.std.specs.Prelude.{ℕ, zero, suc, ◌+◌, ◌<◌, ◌≤◌, ◌^◌, List, [], ◌∷◌, ◌++◌, length, take, drop}
use Rattle.std.specs.Prelude.{◌≡◌, ⊤, true, slice_index, slice_range}
use Rattle.std.specs.Int.{w64, from_le_bytes, to_le_bytes}
use Rattle.hmr_types.specs.ModName.{is_name}
use Rattle.hmr_types.specs.Table.{is_table}

-- the bytes of a row
abbrev pub row_bytes : List ℕ × ℕ → List ℕ
row_bytes row = to_le_bytes w64 row.1 ++ length row.0 ∷ row.0

-- how many bytes the first row has
abbrev pub row_len : List ℕ → ℕ
row_len bytes = 9 + slice_index bytes 8

-- the first row
abbrev pub first_row : List ℕ → List ℕ × ℕ
first_row bytes = (slice_range bytes 9 (row_len bytes), from_le_bytes w64 (take 8 bytes))

-- the rows that bytes are, of which there are so many
abbrev pub rows_in : ℕ → List ℕ → List (List ℕ × ℕ)
rows_in zero bytes = []
rows_in (suc n) bytes = first_row bytes ∷ rows_in n (drop (row_len bytes) bytes)

-- bytes begin with a whole row, whose name is one
pub record IsRow (bytes : List ℕ) : Type 0 where
  pub head : 9 ≤ length bytes
  pub whole : row_len bytes ≤ length bytes
  pub named : is_name (first_row bytes).0 ≡ true

-- so many rows are whole
abbrev pub AreRows : ℕ → List ℕ → Type 0
AreRows zero bytes = ⊤
AreRows (suc n) bytes = IsRow bytes × AreRows n (drop (row_len bytes) bytes)

-- bytes are the rows of a table, so many
pub record IsPacked (count : ℕ) (bytes : List ℕ) : Type 0 where
  pub rows : AreRows count bytes
  pub table : is_table (rows_in count bytes) ≡ true

-- a row can be packed: its name is one, and its version fits 8 bytes
pub record CanPack (row : List ℕ × ℕ) : Type 0 where
  pub named : is_name row.0 ≡ true
  pub fits : row.1 < 2 ^ 64
