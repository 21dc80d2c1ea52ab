-- The modules of a page with their versions are a table.
use Rattle.std.proofs.Common.{◌≡◌, ℕ, ◌≤◌, List, [], ◌∷◌, refl, ap, sym}
use Rattle.std.specs.Prelude.{All}
use Rattle.std.specs.Cmp.Lexicographic.{slice_cmp}
use Rattle.std.specs.List.Sorted.{IsStrictlySortedBy}
use Rattle.std.specs.Map.{keys_of}
use Rattle.std.specs.Ordering.{nat_cmp}
use Rattle.std.proofs.Math.Path.{subst}
use Rattle.std.proofs.lemmas.List.Elements.{All-cons, All-nil}
use Rattle.hmr_types.specs.Table.{IsTable}
use Rattle.core_model.specs.Names.{Name, names_of}
use Rattle.core_model.specs.View.{View, table_of}
use Rattle.client_records.specs.Inside.{AreCounted}

keys_table : (view : View) → keys_of (table_of view) ≡ names_of view
keys_table [] = refl
keys_table (row ∷ rows) = ap (λ l. row.0 ∷ l) (keys_table rows)

all_versions : (view : View) → AreCounted view → All (λ (p : Name × ℕ). (1 ≤ p.1) × (p.1 ≤ 9007199254740991)) (table_of view)
all_versions [] h = All-nil (λ (p : Name × ℕ). (1 ≤ p.1) × (p.1 ≤ 9007199254740991))
all_versions (row ∷ rows) h = All-cons (λ (p : Name × ℕ). (1 ≤ p.1) × (p.1 ≤ 9007199254740991)) (row.0, row.1.version) (table_of rows) h.0 (all_versions rows h.1)

-- they are a table
pub is_a_table : (view : View) (rows : List (Name × ℕ)) → rows ≡ table_of view → IsStrictlySortedBy (slice_cmp nat_cmp) (names_of view) → AreCounted view → IsTable rows
is_a_table view rows e s h = subst IsTable (sym e) (record { rising = subst (IsStrictlySortedBy (slice_cmp nat_cmp)) (sym (keys_table view)) s; versions = all_versions view h })
