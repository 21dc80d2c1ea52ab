-- Updates in which each module that is replaced still imports what it imported before, and besides only
-- what is on the page, so that what is reached stays as it was, and the page's view gets new entries in
-- place.
use Rattle.std.specs.Prelude.{◌≡◌, ◌⊎◌, ◌==◌, ℕ, Bool, true, false, not, ◌&&◌, ◌||◌, List, [], ◌∷◌, filter}
use Rattle.std.specs.Prelude.{Option, Some, None, is_some, slice_get, ⊤, if◌then◌else◌}
use Rattle.std.specs.List.{list_all}
use Rattle.hmr_types.specs.declared.words.PlanKind.{PlanKind}
use Rattle.hmr_types.specs.declared.words.PlanKind.TheVariants.{Load, Reload, Update}
use Rattle.core_model.specs.Names.{Name, same_name, has, at, collect, first_of}
use Rattle.core_model.specs.Paths.{Reaches}
use Rattle.core_model.specs.View.{View, Entry, imports, imports_of, is_in}
use Rattle.core_model.specs.Page.{Plan}
use Rattle.module_graph.specs.Entries.{lists_alike, put_entry}

-- all that lists of imports lead to from the roots is in the view
abbrev pub IsClosed : List Name → View → Type 0
IsClosed roots view = (n : Name) → Reaches (imports view) roots n → is_in view n ≡ true

abbrev pub is_update : PlanKind → Bool
is_update Load = false
is_update Reload = false
is_update Update = true

-- a module was fetched that lists what the old one does
abbrev pub is_renewed : Option Entry → Option Entry → Bool
is_renewed old None = false
is_renewed old (Some e) = lists_alike old e.analysis

-- each of these modules was fetched, and lists what the page's does
abbrev pub are_renewed : Plan → View → List Name → Bool
are_renewed p view names = list_all (λ n. is_renewed (at view n) (at p.staged n)) names

-- the list begins with this name
abbrev pub is_first : List Name → Name → Bool
is_first [] n = false
is_first (m ∷ names) n = same_name m n

-- the list without its first name
abbrev pub rest_of : List Name → List Name
rest_of [] = []
rest_of (n ∷ names) = names

-- the list has no names
abbrev pub is_at_end : List Name → Bool
is_at_end [] = true
is_at_end (n ∷ names) = false

-- a list has the names listed before, in their order, and besides only names of modules of the view
abbrev pub adds_present : View → List Name → List Name → Bool
adds_present view before [] = is_at_end before
adds_present view before (n ∷ names) = if is_first before n then adds_present view (rest_of before) names
    else is_in view n && adds_present view before names

-- the module is on the page, and was fetched: it imports what it did, and besides only what is there
abbrev pub is_grown : View → Option Entry → Option Entry → Bool
is_grown view old None = false
is_grown view old (Some e) = is_some old && adds_present view (imports_of old) e.analysis.imports

-- of these modules at most one lists others than it did, and that one has only grown
abbrev pub grow_once : Plan → View → List Name → Bool
grow_once p view [] = true
grow_once p view (n ∷ names) = if is_renewed (at view n) (at p.staged n) then grow_once p view names
    else is_grown view (at view n) (at p.staged n) && are_renewed p view names

-- the plan is an update, each module that it replaces was fetched, and at most one of them lists others
-- than it did, which has only grown
abbrev pub is_growing : Plan → View → Bool
is_growing p view = is_update p.kind && grow_once p view p.replaced

-- the module is there and was fetched, it imports what it did, and each further import is reached
pub record HasGrown (roots : List Name) (view : View) (old new : Option Entry) : Type 0 where
  pub there : is_some old ≡ true
  pub fetched : is_some new ≡ true
  pub kept : (m : Name) → has (imports_of old) m ≡ true → has (imports_of new) m ≡ true
  pub further : (m : Name) → has (imports_of new) m ≡ true
      → (has (imports_of old) m ≡ true) ⊎ Reaches (imports view) roots m

-- the plan is an update, and each module that it replaces is such a one
pub record IsGrowth (roots : List Name) (p : Plan) (view : View) : Type 0 where
  pub update : is_update p.kind ≡ true
  pub each : (n : Name) → has p.replaced n ≡ true → HasGrown roots view (at view n) (at p.staged n)

-- what was fetched of these names
abbrev pub fetched_of : Plan → List Name → List (Name × Entry)
fetched_of p names = collect (λ n. at p.staged n) names

-- the view with these entries in place of those of their names, the last first
abbrev pub put_all : List (Name × Entry) → View → View
put_all [] view = view
put_all (row ∷ rows) view = put_entry row.0 row.1 (put_all rows view)

-- the view with what was fetched of the replaced names
abbrev pub renewed_view : Plan → View → View
renewed_view p view = put_all (fetched_of p p.replaced) view

-- each of the entries lists what that of its name does in the view
abbrev pub AreAlike : View → List (Name × Entry) → Type 0
AreAlike view [] = ⊤
AreAlike view (row ∷ rows) = (lists_alike (at view row.0) row.1.analysis ≡ true) × AreAlike view rows

-- the first of the entries that doesn't list what that of its name does in the view
abbrev pub first_unlike : View → List (Name × Entry) → Option (Name × Entry)
first_unlike view rows =
    first_of (filter (λ row. not (lists_alike (at view row.0) row.1.analysis)) rows)

-- the view with this entry in place, if there is one
abbrev pub put_row : Option (Name × Entry) → View → View
put_row None view = view
put_row (Some row) view = put_entry row.0 row.1 view

-- the view with the first of the entries that lists others than that of its name does
abbrev pub with_first : List (Name × Entry) → View → View
with_first rows view = put_row (first_unlike view rows) view

-- each of the entries has the name of a module of the view
abbrev pub AreThere : View → List (Name × Entry) → Type 0
AreThere view [] = ⊤
AreThere view (row ∷ rows) = (is_in view row.0 ≡ true) × AreThere view rows

-- a row of a table has the name, and the version or one that the plan replaces
abbrev pub is_fitting_at : Plan → Name × ℕ → Option (Name × Entry) → Bool
is_fitting_at p t None = false
is_fitting_at p t (Some row) = same_name t.0 row.0 && (t.1 == row.1.version || has p.replaced row.0)

-- each row of the table is such a row of the view's, in order
abbrev pub are_fitting : Plan → List (Name × ℕ) → View → Bool
are_fitting p [] [] = true
are_fitting p [] (row ∷ view) = false
are_fitting p (t ∷ told) [] = false
are_fitting p (t ∷ told) (row ∷ view) = is_fitting_at p t (Some row) && are_fitting p told view

-- the name is told at the version that was fetched of it
pub record IsToldOf (p : Plan) (told : List (Name × ℕ)) (n : Name) : Type 0 where
  pub place : ℕ
  pub entry : Entry
  pub row : slice_get told place ≡ Some (n, entry.version)
  pub fetched : at p.staged n ≡ Some entry
