-- What a page is once the plan under way was applied.
use Rattle.std.specs.Prelude.{ℕ, List, [], ◌∷◌, ◌+◌, ◌==◌, length, map, nat_lt, Option, Some, None}
use Rattle.std.specs.Prelude.{if◌then◌else◌}
use Rattle.std.specs.BTreeMap.{insert_entry}
use Rattle.std.specs.Cmp.Lexicographic.{slice_cmp}
use Rattle.std.specs.List.{flat_map}
use Rattle.std.specs.Ordering.{nat_cmp}
use Rattle.hmr_types.specs.declared.words.PlanKind.{PlanKind}
use Rattle.hmr_types.specs.declared.words.PlanKind.TheVariants.{Load, Reload, Update}
use Rattle.core_model.specs.Names.{Name}
use Rattle.live_lines.specs.declared.imported_name.ImportedName.{ImportedName}
use Rattle.live_lines.specs.declared.instance.Binding.{Binding}
use Rattle.live_lines.specs.declared.instance.Fetched.{Fetched}
use Rattle.live_lines.specs.declared.instance.Instance.{Instance}
use Rattle.live_lines.specs.declared.page_news.PageNews.{PageNews}
use Rattle.live_lines.specs.declared.page_news.PageNews.TheVariants.{Loaded, Hot}
use Rattle.live_lines.specs.Pages.{Page, row_at, stale_of}

-- the number of the next plan, up to the largest
abbrev pub next_made : ℕ → ℕ
next_made made = if nat_lt made 18446744073709551615 then made + 1 else made

-- the modules that stay live until they are replaced: an update's
abbrev pub kept_by : PlanKind → List (Name × Instance) → List (Name × Instance)
kept_by Load modules = []
kept_by Reload modules = []
kept_by Update modules = modules

-- the version of an instance, 0 for none
abbrev pub live_version : Option Instance → ℕ
live_version None = 0
live_version (Some i) = i.version

-- the version that a module has once the plan was applied: the fetched one's, or the kept one's
abbrev pub version_after : Option Fetched → Option Instance → ℕ
version_after None kept = live_version kept
version_after (Some f) kept = f.version

-- what a name is bound to that a new instance imports
abbrev pub bound : List (Name × Fetched) → List (Name × Instance) → ImportedName → Binding
bound staged kept imported = record {
  dependency = imported.from;
  name = imported.name;
  version = version_after (row_at staged imported.from) (row_at kept imported.from);
}

-- the new instance of a fetched module
abbrev pub born : ℕ → List (Name × Fetched) → List (Name × Instance) → Fetched → Instance
born made staged kept f = record {
  version = f.version;
  made = made;
  bindings = map (bound staged kept) f.names;
}

-- the new instances of fetched modules, by name
abbrev pub born_rows : ℕ → List (Name × Fetched) → List (Name × Instance) → List (Name × Fetched)
    → List (Name × Instance)
born_rows made staged kept rows = map (λ row. (row.0, born made staged kept row.1)) rows

-- the modules with these rows in place of their own
abbrev pub put_rows : List (Name × Instance) → List (Name × Instance) → List (Name × Instance)
put_rows modules [] = modules
put_rows modules (row ∷ rows) = put_rows (insert_entry (slice_cmp nat_cmp) modules row.0 row.1) rows

-- the modules of the page once the plan was applied
abbrev pub modules_after : PlanKind → Page → List (Name × Instance)
modules_after kind p =
    put_rows (kept_by kind p.modules)
    (born_rows (next_made p.made) p.staged (kept_by kind p.modules) p.staged)

-- a fetched module, where its version isn't the one that the page had
abbrev pub changed_by : List (Name × Instance) → Name → ℕ → List (Name × ℕ)
changed_by modules n version =
    if live_version (row_at modules n) == version then [] else (n, version) ∷ []

-- the modules whose version is another than before, with their versions
abbrev pub changed_of : List (Name × Instance) → List (Name × Fetched) → List (Name × ℕ)
changed_of modules staged = flat_map (λ row. changed_by modules row.0 row.1.version) staged

-- what there is to tell once a plan was applied, of the modules that there are then
abbrev pub told_by : PlanKind → List (Name × Name) → List (Name × ℕ) → List (Name × Instance) → PageNews
told_by Load accepted changed after = Loaded (length after)
told_by Reload accepted changed after = Loaded (length after)
told_by Update accepted changed after = Hot changed accepted (stale_of after)
