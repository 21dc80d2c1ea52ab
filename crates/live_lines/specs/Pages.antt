-- What is known of a page, and which of its bindings are stale.
use Rattle.std.specs.Prelude.{ℕ, List, [], ◌∷◌, Option, Some, None, nat_lt, if◌then◌else◌}
use Rattle.std.specs.List.{flat_map}
use Rattle.std.specs.BTreeMap.{is_at}
use Rattle.std.specs.Cmp.Lexicographic.{slice_cmp}
use Rattle.std.specs.Map.{lookup}
use Rattle.std.specs.Ordering.{nat_cmp}
use Rattle.core_model.specs.Names.{Name}
use Rattle.live_lines.specs.declared.instance.Begun.{Begun}
use Rattle.live_lines.specs.declared.instance.Binding.{Binding}
use Rattle.live_lines.specs.declared.instance.Fetched.{Fetched}
use Rattle.live_lines.specs.declared.instance.Instance.{Instance}
use Rattle.live_lines.specs.declared.page_news.StaleBinding.{StaleBinding}

-- the number of the page, how many plans were applied, the live instance of each module, the texts that were
-- fetched for the plan under way, and that plan; names rise by bytes
pub record Page : Type 0 where
  pub client : ℕ
  pub made : ℕ
  pub modules : List (Name × Instance)
  pub staged : List (Name × Fetched)
  pub under : Option Begun

-- what rows that rise by name have of a name
abbrev pub row_at : {X : Type 0} → List (Name × X) → Name → Option X
row_at rows n = lookup (is_at (slice_cmp nat_cmp n)) rows

-- a binding of this importer, where the live instance of its module has this version
abbrev pub stale_binding : Name → Binding → ℕ → StaleBinding
stale_binding importer b live = record {
  importer = importer;
  imported = b.dependency;
  name = b.name;
  linked = b.version;
  live = live;
}

-- the binding of an instance that plan number `made` made, where a later plan made the live instance of the
-- module that it is bound to
abbrev pub stale_by : Name → ℕ → Binding → Option Instance → List StaleBinding
stale_by importer made b None = []
stale_by importer made b (Some i) =
    if nat_lt made i.made then stale_binding importer b i.version ∷ [] else []

-- a binding of an instance, where it is stale
abbrev pub stale_at : List (Name × Instance) → Name → ℕ → Binding → List StaleBinding
stale_at modules importer made b = stale_by importer made b (row_at modules b.dependency)

-- the stale ones among these bindings of an instance
abbrev pub stale_among : List (Name × Instance) → Name → ℕ → List Binding → List StaleBinding
stale_among modules importer made bindings = flat_map (stale_at modules importer made) bindings

-- the stale bindings of one module
abbrev pub stale_in : List (Name × Instance) → Name × Instance → List StaleBinding
stale_in modules row = stale_among modules row.0 row.1.made row.1.bindings

-- all stale bindings, by importer, and of one importer in the order of its text
abbrev pub stale_of : List (Name × Instance) → List StaleBinding
stale_of modules = flat_map (stale_in modules) modules
