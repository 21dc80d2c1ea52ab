-- What the code keeps, as contracts see it, and what holds of it always.
use Rattle.std.specs.Prelude.{◌≤◌, length, All}
use Rattle.hmr_types.specs.declared.limits.TheConstants.{CLIENTS, LARGEST_CLIENT}
use Rattle.core_model.specs.Roots.{AreRoots}
use Rattle.server_core.specs.Clients.{IsGiven, numbers_of}
use Rattle.server_core.specs.Kept.{Kept}
use Rattle.server_core.specs.declared.page_core.Core.TheInside.{Inside}

-- what is kept, as contracts see it
abbrev pub kept_of : Inside → Kept
kept_of a = record { roots = a.roots; sources = a.versions; clients = a.clients.items; given = a.given }

-- the roots are those of a page, the numbers are given ones, and there are no more clients than may be
pub record IsSoundInside (a : Inside) : Type 0 where
  pub roots : AreRoots a.roots
  pub numbers : All (IsGiven a.given) (numbers_of a.clients.items)
  pub given : a.given ≤ LARGEST_CLIENT
  pub few : length (numbers_of a.clients.items) ≤ CLIENTS
