-- The updates that stopped at an edge since its importer's instance was made, and what made them stop.
use Rattle.std.specs.Prelude.{◌≡◌, ◌↔◌, ◌⊎◌, ℕ, true, false, [], ◌∷◌, Contains, Option, Some, None, ⊤}
use Rattle.core_model.specs.Names.{Name, has}
use Rattle.core_model.specs.View.{imports, accepts, self_accepts, IsDropped}
use Rattle.core_model.specs.Page.{Plan, met_of}
use Rattle.client_model.specs.Language.{Language}
use Rattle.client_model.specs.Runtime.{Runtime, Opening}
use Rattle.client_model.specs.Past.{Past, runtime_after}
use Rattle.client_model.specs.Stale.{live_number, IsStale, stale_of, StopsAt, Stopped}

-- b is live, imports x, and since its instance was made an applied update stopped at the edge from b to x
pub record IsStopped (language : Language) (opening : Opening) (past : Past) (b x : Name) : Type 0 where
  pub number : ℕ
  pub live : live_number (runtime_after language opening past) b ≡ Some number
  pub importing : imports (runtime_after language opening past).page.view b x ≡ true
  pub stopped : Stopped language opening past number b x

-- where the update's walk met b, b accepted x, or x accepted itself and wasn't forced
abbrev pub IsAccepted : Runtime → Name → Name → Type 0
IsAccepted r b x = (p : Plan) → r.page.plan ≡ Some p → has (met_of r.roots p r.page.view) b ≡ true →
    (accepts r.page.view b x ≡ true) ⊎ ((self_accepts r.page.view x ≡ true) × (has r.page.forced x ≡ false))

-- where the walk didn't meet b, no root reaches b any more once the update is applied
abbrev pub IsLeftBehind : Runtime → Runtime → Name → Type 0
IsLeftBehind r after b = (p : Plan) → r.page.plan ≡ Some p → has (met_of r.roots p r.page.view) b ≡ false →
    IsDropped after.page.view r.roots b

-- both hold at each stop of each update that was applied
abbrev pub AreAccepted : Language → Opening → Past → Type 0
AreAccepted language opening [] = ⊤
AreAccepted language opening (came ∷ past) = ((k : ℕ) (b x : Name) →
    StopsAt (runtime_after language opening past) (runtime_after language opening (came ∷ past)) k b x →
    IsAccepted (runtime_after language opening past) b x
    × IsLeftBehind (runtime_after language opening past) (runtime_after language opening (came ∷ past)) b)
    × AreAccepted language opening past

-- an open client is what came to it makes
abbrev pub IsMadeBy : Language → Opening → Past → Option Runtime → Type 0
IsMadeBy language opening past None = ⊤
IsMadeBy language opening past (Some r) = r ≡ runtime_after language opening past

-- an open client is stale exactly at the edges at which updates stopped
abbrev pub AreStops : Language → Opening → Past → Option Runtime → Type 0
AreStops language opening past None = ⊤
AreStops language opening past (Some r) = (b x : Name) → IsStale r b x ↔ IsStopped language opening past b x

-- and those are the edges that it lists as stale
abbrev pub AreListedStops : Language → Opening → Past → Option Runtime → Type 0
AreListedStops language opening past None = ⊤
AreListedStops language opening past (Some r) =
    (b x : Name) → Contains (stale_of r) (b, x) ↔ IsStopped language opening past b x

-- each stop of an open client was at an edge that accepted
abbrev pub AreStopsAccepted : Language → Opening → Past → Option Runtime → Type 0
AreStopsAccepted language opening past None = ⊤
AreStopsAccepted language opening past (Some r) = AreAccepted language opening past
