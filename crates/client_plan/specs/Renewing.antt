-- An update by which no module comes to the page: its modules stay, and those that get a new instance have
-- new entries.
use Rattle.std.specs.List.{list_all}
use Rattle.std.specs.Prelude.{◌≡◌, ◌≤◌, ℕ, length, Bool, true, false, List, [], ◌∷◌, map, Option, Some, None, is_some, if◌then◌else◌}
use Rattle.hmr_types.specs.declared.words.PlanKind.{PlanKind}
use Rattle.hmr_types.specs.declared.words.PlanKind.TheVariants.{Load, Reload, Update}
use Rattle.core_model.specs.Names.{Name, at, has, same_name}
use Rattle.core_model.specs.Page.{Plan, entry_at, new_view}
use Rattle.core_model.specs.View.{Entry, View}
use Rattle.client_model.specs.Linking.{new_names}
use Rattle.client_model.specs.Order.{evaluation_order}
use Rattle.client_model.specs.Runtime.{Runtime}
use Rattle.page_plan.specs.Views.{put_found}
use Rattle.client_plan.specs.declared.under_way.Modules.{Modules}
use Rattle.client_plan.specs.declared.under_way.Modules.TheVariants.{Anew, Renewed}

-- an update of which each new instance is that of a module of the page
pub record IsRenewing (r : Runtime) (p : Plan) : Type 0 where
  pub kind : p.kind ≡ Update
  pub there : (n : Name) → has (new_names p r) n ≡ true → is_some (at r.page.view n) ≡ true

-- the new entry, where there is one
abbrev pub entry_or : Option Entry → Entry → Entry
entry_or None e = e
entry_or (Some new) e = new

-- the entry of a module of the page, where the modules of these names get their entries in the plan
abbrev pub renewed : Plan → View → List Name → Name → Entry → Entry
renewed p view names n e = entry_or (if has names n then entry_at p view n else None) e

-- the page's modules with these entries
abbrev pub renewed_view : Plan → View → List Name → View
renewed_view p view names = map (λ row. (row.0, renewed p view names row.0 row.1)) view

-- the modules with these entries in place of their own, one after another
abbrev pub put_each : Plan → List Name → View → View
put_each p [] view = view
put_each p (n ∷ names) view = put_each p names (put_found n (entry_at p view n) view)

-- the rows with the version of this entry in the first row of the name, where there are both
abbrev pub put_version : Name → Option Entry → List (Name × ℕ) → List (Name × ℕ)
put_version n None rows = rows
put_version n (Some e) [] = []
put_version n (Some e) (row ∷ rows) = if same_name row.0 n then (row.0, e.version) ∷ rows
    else row ∷ put_version n (Some e) rows

-- the rows with the versions of what get has for these names, one after another
abbrev pub put_versions : (Name → Option Entry) → List Name → List (Name × ℕ) → List (Name × ℕ)
put_versions get [] rows = rows
put_versions get (n ∷ names) rows = put_versions get names (put_version n (get n) rows)

-- the plan is an update, and each of these names is that of a module of the view
abbrev pub is_renewing : PlanKind → View → List Name → Bool
is_renewing Load view names = false
is_renewing Reload view names = false
is_renewing Update view names = list_all (λ n. is_some (at view n)) names

-- what becomes of the page's modules, where this is the order of the plan's whole walk
abbrev pub IsMade : Plan → View → List Name → List Name → Modules → Type 0
IsMade p view names order (Anew made) = (roots : List Name) → order ≡ evaluation_order roots p view
    → made ≡ new_view roots p view
IsMade p view names order Renewed = is_renewing p.kind view names ≡ true

-- the page's modules are no more than so many, as they then are or as they stay
abbrev pub AreAllIn : View → Modules → ℕ → Type 0
AreAllIn view (Anew made) count = length made ≤ count
AreAllIn view Renewed count = length view ≤ count
