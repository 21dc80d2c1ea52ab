use Rattle.std.proofs.Common.{◌≡◌, ◌∙◌, ◌++◌, true, List}
use Rattle.std.specs.Prelude.{filter, not}
use Rattle.std.specs.List.{list_any}
use Rattle.core_model.specs.Names.{Name, has, at, names_of, sorted, rising}
use Rattle.core_model.specs.View.{View, reached_in}
use Rattle.core_model.specs.Page.{Plan, met_of, new_entry, new_view}
use Rattle.core_model.specs.FreshLoad.{imports, imported_by_served, reached_by, version_in}
use Rattle.core_model.specs.Rounds.{reached_of}
use Rattle.core_model.specs.Spread.{passes, spread_of}
use Rattle.core_model.proofs.Rising.{sorted_rises, collect_rises, table_rises}
use Rattle.core_model.proofs.laws.lists_of_names_rise.Goals as goal

view_rises : (roots : List Name) (p : Plan) (view : View) → rising (names_of (new_view roots p view)) ≡ true
view_rises roots p view = collect_rises (λ n. new_entry (has (met_of roots p view) n) p view n) (sorted (met_of roots p view ++ names_of view)) (sorted_rises (met_of roots p view ++ names_of view))

pub returns-clause-view : goal.returns-clause-view
returns-clause-view c = view_rises

pub returns-clause-table : goal.returns-clause-table
returns-clause-table c roots p view = table_rises (new_view roots p view) ∙ view_rises roots p view

pub returns-clause-dropped : goal.returns-clause-dropped
returns-clause-dropped c view roots = sorted_rises (filter (λ n. not (has (reached_in view roots) n)) (names_of view))

pub returns-clause-replaced : goal.returns-clause-replaced
returns-clause-replaced c view changed forced = sorted_rises (changed ++ filter (λ m. list_any (λ n. passes view forced n m) (spread_of view changed forced)) (names_of view))

pub returns-clause-fresh : goal.returns-clause-fresh
returns-clause-fresh c served roots = collect_rises (λ n. version_in (at served n)) (reached_by served roots) (sorted_rises (reached_of (imports served) (imported_by_served served) roots))
