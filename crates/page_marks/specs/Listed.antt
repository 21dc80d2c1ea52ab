-- The modules of a page, one by one.
use Rattle.std.specs.Prelude.{[], ◌∷◌, Option, Some, None}
use Rattle.core_model.specs.Names.{Name}
use Rattle.core_model.specs.View.{View, Entry}

-- the modules at a place: one, or none
abbrev pub listed : Option (Name × Entry) → View
listed None = []
listed (Some row) = row ∷ []
