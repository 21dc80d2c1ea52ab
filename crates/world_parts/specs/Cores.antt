-- The core, against that of the definitions.
use Rattle.std.specs.Prelude.{◌≡◌, List}
use Rattle.core_model.specs.Core as model
use Rattle.core_model.specs.Core.{core_after}
use Rattle.server_core.specs.Kept.{Kept, StandsFor}

-- the core has what the definitions' core has: both are of the same events
pub record IsCore (c : model.Core) (core : Kept) : Type 0 where
  pub past : List model.Event
  pub stands : StandsFor past core
  pub is : core_after core.roots past ≡ c
