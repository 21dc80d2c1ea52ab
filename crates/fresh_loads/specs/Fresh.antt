-- A fresh load, as the core tells it.
use Rattle.std.specs.Prelude.{ℕ, ◌≤◌}
use Rattle.hmr_types.specs.declared.limits.TheConstants.{LARGEST_NUMBER}
use Rattle.core_model.specs.Names.{Name}
use Rattle.core_model.specs.FreshLoad.{FreshLoad}
use Rattle.fresh_loads.specs.declared.loading.Fresh.{Fresh}

abbrev pub load_of : Fresh → FreshLoad
load_of f = record { table = f.table; missing = f.missing; unlinked = f.unlinked }

-- the version of a row is one that an edit gave
abbrev pub HasVersion : Name × ℕ → Type 0
HasVersion row = (1 ≤ row.1) × (row.1 ≤ LARGEST_NUMBER)
