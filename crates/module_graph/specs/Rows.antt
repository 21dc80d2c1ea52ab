-- The entries of a view as its map holds them, each with whether it is about to leave.
use Rattle.std.specs.Prelude.{◌≡◌, Bool, true, not, List, map, ◌||◌, if◌then◌else◌}
use Rattle.std.specs.List.{list_all}
use Rattle.core_model.specs.Names.{Name, has, names_of, same_name}
use Rattle.core_model.specs.Roots.{are_distinct}
use Rattle.core_model.specs.View.{View, Entry, accepted_of, imports_of}
use Rattle.module_graph.specs.declared.view_rows.Row.{Row}
use Rattle.module_graph.specs.ReverseIndex.{Sets, IsTurned}

abbrev pub Rows : Type 0
Rows = List (Name × Row)

-- the view that the rows hold
abbrev pub view_of : Rows → View
view_of rows = map (λ row. (row.0, row.1.entry)) rows

-- no row is about to leave
abbrev pub are_staying : Rows → Bool
are_staying rows = list_all (λ row. not row.1.leaving) rows

-- the row is about to leave, if the test says so or if it was
abbrev pub mark : Bool → Row → Row
mark b row = record { entry = row.entry; leaving = b || row.leaving }

-- the row of this name is about to leave
abbrev pub mark_name : Name → Rows → Rows
mark_name n rows = map (λ row. (row.0, mark (same_name n row.0) row.1)) rows

-- the rows of these names are about to leave
abbrev pub mark_names : List Name → Rows → Rows
mark_names names rows = map (λ row. (row.0, mark (has names row.0) row.1)) rows

-- the row has this entry, if the test says so
abbrev pub renew : Bool → Entry → Row → Row
renew b e row = record { entry = if b then e else row.entry; leaving = row.leaving }

-- the row of this name has this entry
abbrev pub renew_name : Name → Entry → Rows → Rows
renew_name n e rows = map (λ row. (row.0, renew (same_name n row.0) e row.1)) rows

-- no two rows have one name, none is about to leave, and the indexes are the imports and what is accepted
-- by name, turned round
pub record AreIndexed (rows : Rows) (importers acceptors : Sets) : Type 0 where
  pub distinct : are_distinct (names_of (view_of rows)) ≡ true
  pub staying : are_staying rows ≡ true
  pub imports : IsTurned imports_of (view_of rows) importers
  pub accepted : IsTurned accepted_of (view_of rows) acceptors
