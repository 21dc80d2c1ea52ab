-- A list of names with its set.
use Rattle.std.specs.Prelude.{◌≡◌, List}
use Rattle.core_model.specs.Names.{Name, has}

-- the set has the names of the list
pub record IsSetOf (names set : List Name) : Type 0 where
  pub same : (n : Name) → has set n ≡ has names n
