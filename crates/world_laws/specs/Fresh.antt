-- What a caught-up client holds, and what it shows of it.
use Rattle.std.specs.Prelude.{◌≡◌, ◌↔◌, ℕ, List, [], ◌++◌, map, Contains, Option, Some, None, ⊤}
use Prim.{⊥}
use Rattle.output_lines.specs.declared.out_line.OutLine.{OutLine}
use Rattle.core_model.specs.Names.{Name}
use Rattle.core_model.specs.FreshLoad.{Served, fresh_table, missing_of, unlinked_of}
use Rattle.core_model.specs.Core.{client_at}
use Rattle.core_model.specs.Client.{Client}
use Rattle.client_model.specs.Language.{Language, links_of}
use Rattle.client_model.specs.Runtime.{Runtime}
use Rattle.client_model.specs.Stale.{IsStale}
use Rattle.client_model.specs.Printing.{table, module_line, stale_line}
use Rattle.world_model.specs.World.{World}
use Rattle.world_model.specs.CaughtUp.{IsCaughtUp}
use Rattle.world_laws.specs.Instances.{IsLiveAs}

-- the client's modules with their versions are those of a fresh load of its own roots, in its order, and
-- the fresh load misses nothing
pub record HoldsFreshLoad (served : Served) (r : Runtime) : Type 0 where
  pub table : table r ≡ fresh_table served r.roots
  pub nothing_missing : missing_of served r.roots ≡ []

-- the same of a client and its record, where the client is caught up
abbrev pub IsFreshAt : World → Option Client → Option Runtime → Type 0
IsFreshAt w c None = ⊤
IsFreshAt w None (Some r) = ⊤
IsFreshAt w (Some c) (Some r) = IsCaughtUp w.core.sources c r → HoldsFreshLoad w.core.sources.served r

-- each client that is caught up holds a fresh load
abbrev pub AreFresh : World → Type 0
AreFresh w = (i : ℕ) → IsFreshAt w (client_at w.core.clients i) (client_at w.clients i)

-- where the client is caught up, a name is in the fresh load of its own roots at a version exactly where a
-- live instance of the name has that version
abbrev pub HasInstancesAt : World → Option Client → Option Runtime → Type 0
HasInstancesAt w c None = ⊤
HasInstancesAt w None (Some r) = ⊤
HasInstancesAt w (Some c) (Some r) = IsCaughtUp w.core.sources c r → (n : Name) (v : ℕ) →
    Contains (fresh_table w.core.sources.served r.roots) (n, v) ↔ IsLiveAs r.instances n v

-- the same of each client
abbrev pub HaveFreshInstances : World → Type 0
HaveFreshInstances w = (i : ℕ) → HasInstancesAt w (client_at w.core.clients i) (client_at w.clients i)

-- the lines are those of the modules of a fresh load of these roots, and behind them stale edges alone; and
-- the fresh load misses nothing
pub record ShowFreshLoad (roots : List Name) (served : Served) (lines : List OutLine) : Type 0 where
  pub stale : List (Name × Name)
  pub lines_are : lines ≡ map module_line (fresh_table served roots) ++ map stale_line stale
  pub nothing_missing : missing_of served roots ≡ []

-- the same of an open client and its own roots
abbrev pub ShowsFresh : Served → List OutLine → Option Runtime → Type 0
ShowsFresh served lines None = ⊥
ShowsFresh served lines (Some r) = ShowFreshLoad r.roots served lines

-- where the client is caught up, it is stale at the edge of each import that the fresh load lists as
-- not exported
abbrev pub IsUnlinkedStale : Language → World → Option Client → Option Runtime → Type 0
IsUnlinkedStale language w c None = ⊤
IsUnlinkedStale language w None (Some r) = ⊤
IsUnlinkedStale language w (Some c) (Some r) = IsCaughtUp w.core.sources c r → (n m x : Name) →
    Contains (unlinked_of (links_of language) w.core.sources.served r.roots) (n, m, x) → IsStale r n m

-- the same of each client
abbrev pub AreUnlinkedStale : Language → World → Type 0
AreUnlinkedStale language w =
    (i : ℕ) → IsUnlinkedStale language w (client_at w.core.clients i) (client_at w.clients i)
