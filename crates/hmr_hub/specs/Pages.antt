-- The pages of clients as the hub keeps them: of a client that has gone, its modules when it went.
use Rattle.std.specs.Prelude.{◌≡◌, ◌+◌, ◌<◌, ◌≤◌, [], ◌∷◌}
use Rattle.std.specs.Prelude.{ℕ, true, List, length, get_or, Option, Some, None, is_some}
use Rattle.std.specs.Option.{option_or}
use Rattle.hmr_types.specs.declared.limits.TheConstants.{LARGEST_CLIENT}
use Rattle.core_model.specs.Names.{Name}
use Rattle.core_model.specs.Core.{Event, client_at, core_after}
use Rattle.server_core.specs.Reading.{page_of}

-- the modules of a page, with their versions
abbrev pub Page : Type 0
Page = List (Name × ℕ)

-- the page of the client of this number, as it was when it was last connected
abbrev pub last_page : List Name → List Event → ℕ → Option Page
last_page roots [] i = None
last_page roots (event ∷ past) i =
    option_or (page_of (core_after roots (event ∷ past)) i) (last_page roots past i)

-- no page is kept of a connected client; of one that has gone it is the last one
abbrev pub IsPage : List Name → List Event → ℕ → Option Page → Type 0
IsPage roots past i None = is_some (client_at (core_after roots past).clients i) ≡ true
IsPage roots past i (Some page) =
    (client_at (core_after roots past).clients i ≡ None) × (last_page roots past i ≡ Some page)

-- what is kept of each client number that was given, from 1 on
pub record ArePages (roots : List Name) (past : List Event) (pages : List (Option Page)) : Type 0 where
  pub counted : length pages ≡ (core_after roots past).given
  pub most : (core_after roots past).given ≤ LARGEST_CLIENT
  pub given : (i : ℕ) → is_some (client_at (core_after roots past).clients i) ≡ true
      → (1 ≤ i) × (i ≤ length pages)
  pub each : (k : ℕ) → k < length pages → IsPage roots past (k + 1) (get_or pages k None)
