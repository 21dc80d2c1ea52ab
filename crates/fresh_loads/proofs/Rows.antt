-- Rows that are collected over names which rise are those of a table.
use Rattle.std.proofs.Common.{◌≡◌, ℕ, List, [], ◌∷◌, sym}
use Rattle.std.specs.Prelude.{All, Option, Some, None}
use Rattle.std.specs.Cmp.Lexicographic.{slice_cmp}
use Rattle.std.specs.List.{AllByRecursion}
use Rattle.std.specs.List.Sorted.{IsStrictlySortedBy}
use Rattle.std.specs.Map.{keys_of}
use Rattle.std.specs.Ordering.{nat_cmp}
use Rattle.std.proofs.Math.Path.{subst}
use Rattle.hmr_types.specs.Table.{IsTable}
use Rattle.core_model.specs.Names.{Name, collect, with_entry}
use Rattle.core_model.specs.Rounds.{reached_of}
use Rattle.core_model.specs.FreshLoad.{Served, imports, imported_by_served, reached_by}
use Rattle.module_graph.proofs.Sorting.{IsRising, sorted_rising}
use Rattle.fresh_loads.specs.Fresh.{HasVersion}

all_entry : {X : Type 0} (P : Name → Type 0) (n : Name) (o : Option X) (rows : List (Name × X)) → P n → AllByRecursion P (keys_of rows) → AllByRecursion P (keys_of (with_entry n o rows))
all_entry P n None rows p h = h
all_entry P n (Some x) rows p h = (p, h)

all_collected : {X : Type 0} (P : Name → Type 0) (get : Name → Option X) (names : List Name) → AllByRecursion P names → AllByRecursion P (keys_of (collect get names))
all_collected P get [] h = h
all_collected P get (n ∷ names) h = all_entry P n (get n) (collect get names) h.0 (all_collected P get names h.1)

rising_entry : {X : Type 0} (n : Name) (o : Option X) (rows : List (Name × X)) → AllByRecursion (λ m. slice_cmp nat_cmp n m ≡ Rattle.std.specs.declared.cmp.Ordering.TheVariants.Less) (keys_of rows) → IsRising (keys_of rows) → IsRising (keys_of (with_entry n o rows))
unfolding IsStrictlySortedBy
rising_entry n None rows a s = s
rising_entry n (Some x) rows a s = (a, s)

collect_rises : {X : Type 0} (get : Name → Option X) (names : List Name) → IsRising names → IsRising (keys_of (collect get names))
unfolding IsStrictlySortedBy
collect_rises get [] s = s
collect_rises get (n ∷ names) s = rising_entry n (get n) (collect get names) (all_collected _ get names s.0) (collect_rises get names s.1)

pub rows_are_table : (served : Served) (roots names : List Name) (get : Name → Option ℕ) (rows : List (Name × ℕ)) → names ≡ reached_by served roots → rows ≡ collect get names → All HasVersion rows → IsTable rows
rows_are_table served roots names get rows e f v = record {
  rising = subst (λ r. IsRising (keys_of r)) (sym f) (collect_rises get names (subst IsRising (sym e) (sorted_rising (reached_of (imports served) (imported_by_served served) roots))));
  versions = v;
}
