-- What was packed is read as it was.
use Rattle.std.proofs.Common.{ℕ, zero, suc, ◌+◌, ◌-◌, ◌<◌, ◌≤◌, ◌^◌, List, [], ◌∷◌, ◌++◌, length, take, drop, get_or, true, ◌≡◌, refl, sym, ap, subst, ◌∙◌, arith, append_assoc}
use Rattle.std.specs.Prelude.{All, slice_range}
use Rattle.std.specs.Int.{w64, from_le_bytes}
use Rattle.std.specs.List.{flat_map}
use Rattle.std.proofs.lemmas.List.{drop_at, drop_more, take_at, length-append}
use Rattle.std.proofs.lemmas.List.Elements.{All-head, All-tail}
use Rattle.std.proofs.lemmas.Nat.{from_le_bytes-to_le_bytes_8}
use Rattle.hmr_types.specs.ModName.{is_name}
use Rattle.hmr_types.specs.Table.{is_table}
use Rattle.packed_table.specs.Packing.{AreRows, CanPack, IsPacked, IsRow, first_row, row_bytes, row_len, rows_in}

-- a row is packed behind those before it
pub packed_on : (rows : List (List ℕ × ℕ)) (i : ℕ) (row : List ℕ × ℕ) (old new : List ℕ) → i < length rows → row ≡ get_or rows i row → new ≡ old ++ row_bytes row
    → old ++ flat_map row_bytes (drop i rows) ≡ flat_map row_bytes rows → new ++ flat_map row_bytes (drop (i + 1) rows) ≡ flat_map row_bytes rows
packed_on rows i row old new low is put all =
    let more : List ℕ = flat_map row_bytes (drop (i + 1) rows) in
    let here : flat_map row_bytes (drop i rows) ≡ row_bytes row ++ more =
    ap (flat_map row_bytes) (drop_more rows i row low) ∙ ap (λ r. row_bytes r ++ more) (sym is) in
    ap (λ bytes. bytes ++ more) put ∙ append_assoc old (row_bytes row) more ∙ ap (λ bytes. old ++ bytes) (sym here) ∙ all

-- of so many rows the first can be read
pub first_is : (n m : ℕ) (bytes : List ℕ) → n ≡ suc m → AreRows n bytes → IsRow bytes
first_is zero m bytes e rows = absurd (omega (arith, e))
first_is (suc n) m bytes e rows = rows.0

-- and those behind it
pub others_are : (n m : ℕ) (bytes : List ℕ) → n ≡ suc m → AreRows n bytes → AreRows m (drop (row_len bytes) bytes)
others_are zero m bytes e rows = absurd (omega (arith, e))
others_are (suc n) m bytes e rows = subst (λ k. AreRows k (drop (row_len bytes) bytes)) (omega (arith, e)) rows.1

-- the rows so far with the first of those left, and the others
rows_on : (n m : ℕ) (bytes : List ℕ) (done : List (List ℕ × ℕ)) → n ≡ suc m
    → (done ++ first_row bytes ∷ []) ++ rows_in m (drop (row_len bytes) bytes) ≡ done ++ rows_in n bytes
rows_on zero m bytes done e = absurd (omega (arith, e))
rows_on (suc n) m bytes done e =
    let same : m ≡ n = omega (arith, e) in
    append_assoc done (first_row bytes ∷ []) (rows_in m (drop (row_len bytes) bytes))
    ∙ ap (λ k. done ++ first_row bytes ∷ rows_in k (drop (row_len bytes) bytes)) same

-- a row is read behind those before it
pub unpacked_on : (n m : ℕ) (bytes others : List ℕ) (row : List ℕ × ℕ) (old new : List (List ℕ × ℕ)) → n ≡ suc m → new ≡ old ++ row ∷ [] → row ≡ first_row bytes → others ≡ drop (row_len bytes) bytes
    → new ++ rows_in m others ≡ old ++ rows_in n bytes
unpacked_on n m bytes others row old new left put is behind =
    ap (λ rows. rows ++ rows_in m others) (put ∙ ap (λ r. old ++ r ∷ []) is)
    ∙ ap (λ bs. (old ++ first_row bytes ∷ []) ++ rows_in m bs) behind
    ∙ rows_on n m bytes old left

packed_len : (name : List ℕ) (version : ℕ) → length (row_bytes (name, version)) ≡ 9 + length name
packed_len name version = omega (arith)

-- the bytes of a row end where its name ends
row_ends : (name : List ℕ) (version : ℕ) (more : List ℕ) → row_len (row_bytes (name, version) ++ more) ≡ 9 + length name
row_ends name version more = refl

-- behind the bytes of a row are the others
others_kept : (name : List ℕ) (version : ℕ) (more : List ℕ)
    → drop (row_len (row_bytes (name, version) ++ more)) (row_bytes (name, version) ++ more) ≡ more
others_kept name version more =
    drop_at (row_bytes (name, version)) more (row_len (row_bytes (name, version) ++ more)) (packed_len name version ∙ sym (row_ends name version more))

name_kept : (name : List ℕ) (version : ℕ) (more : List ℕ)
    → slice_range (row_bytes (name, version) ++ more) 9 (row_len (row_bytes (name, version) ++ more)) ≡ name
name_kept name version more =
    let n : length name ≡ 9 + length name - 9 = omega (arith) in
    take_at name more (9 + length name - 9) n

version_kept : (name : List ℕ) (version : ℕ) (more : List ℕ) → version < 2 ^ 64
    → from_le_bytes w64 (take 8 (row_bytes (name, version) ++ more)) ≡ version
version_kept name version more small = from_le_bytes-to_le_bytes_8 version small

-- the first row is read as it was
first_kept : (name : List ℕ) (version : ℕ) (more : List ℕ) → version < 2 ^ 64
    → first_row (row_bytes (name, version) ++ more) ≡ (name, version)
first_kept name version more small =
    ap (λ n. (n, from_le_bytes w64 (take 8 (row_bytes (name, version) ++ more)))) (name_kept name version more)
    ∙ ap (λ v. (name, v)) (version_kept name version more small)

-- all rows are read as they were
rows_kept : (rows : List (List ℕ × ℕ)) → All CanPack rows → rows_in (length rows) (flat_map row_bytes rows) ≡ rows
rows_kept [] h = refl
rows_kept ((name, version) ∷ rows) h =
    let here : CanPack (name, version) = All-head CanPack (name, version) rows h in
    let more : List ℕ = flat_map row_bytes rows in
    ap (λ row. row ∷ rows_in (length rows) (drop (row_len (row_bytes (name, version) ++ more)) (row_bytes (name, version) ++ more))) (first_kept name version more here.fits)
    ∙ ap (λ bytes. (name, version) ∷ rows_in (length rows) bytes) (others_kept name version more)
    ∙ ap (λ rest. (name, version) ∷ rest) (rows_kept rows (All-tail CanPack (name, version) rows h))

long : (name : List ℕ) (version : ℕ) (more : List ℕ) → 9 + length name ≤ length (row_bytes (name, version) ++ more)
long name version more =
    let sum : length (row_bytes (name, version) ++ more) ≡ length (row_bytes (name, version)) + length more = length-append (row_bytes (name, version)) more in
    omega (arith, sum, packed_len name version)

-- all rows are whole
rows_whole : (rows : List (List ℕ × ℕ)) → All CanPack rows → AreRows (length rows) (flat_map row_bytes rows)
rows_whole [] h = tt
rows_whole ((name, version) ∷ rows) h =
    let here : CanPack (name, version) = All-head CanPack (name, version) rows h in
    let more : List ℕ = flat_map row_bytes rows in
    let row : IsRow (row_bytes (name, version) ++ more) = record {
      head = omega (arith, long name version more);
      whole = omega (arith, long name version more, row_ends name version more);
      named = ap is_name (name_kept name version more) ∙ here.named;
    } in
    (row, subst (λ bytes. AreRows (length rows) bytes) (sym (others_kept name version more)) (rows_whole rows (All-tail CanPack (name, version) rows h)))

-- the bytes of a table's rows are packed rows, and they are the table
pub table_kept : (rows : List (List ℕ × ℕ)) (n : ℕ) (bytes : List ℕ) → n ≡ length rows → bytes ≡ flat_map row_bytes rows → All CanPack rows → rows_in n bytes ≡ rows
table_kept rows n bytes e same h = ap (λ k. rows_in k bytes) e ∙ ap (λ bs. rows_in (length rows) bs) same ∙ rows_kept rows h

pub is_packed : (rows : List (List ℕ × ℕ)) (n : ℕ) (bytes : List ℕ) → n ≡ length rows → bytes ≡ flat_map row_bytes rows → All CanPack rows → is_table rows ≡ true → IsPacked n bytes
is_packed rows n bytes e same h table = record {
  rows = subst (λ k. AreRows k bytes) (sym e) (subst (λ bs. AreRows (length rows) bs) (sym same) (rows_whole rows h));
  table = ap is_table (table_kept rows n bytes e same h) ∙ table;
}
