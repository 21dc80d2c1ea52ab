-- The stale edges of a module of the page.
use Rattle.std.specs.Prelude.{List, [], Option, Some, None}
use Rattle.core_model.specs.Names.{Name, sorted}
use Rattle.core_model.specs.View.{Entry}
use Rattle.client_model.specs.Runtime.{Runtime}
use Rattle.page_showing.specs.Showing.{stale_among}

-- rising by dependency, if there is a module
abbrev pub stale_row : Runtime → Option (Name × Entry) → List (Name × Name)
stale_row r None = []
stale_row r (Some row) = stale_among r row.0 (sorted row.1.analysis.imports)
