-- What ties the two sides of the world together: what a client's runtime has of its page is what the
-- core's record has, so that each answer is one to the request that stands.
use Rattle.std.specs.Prelude.{◌≡◌, ℕ, ◌≤◌, true, false, List, [], ◌∷◌, Option, Some, None, is_some, ⊤}
use Prim.{⊥}
use Rattle.hmr_types.specs.declared.analysis.Outcome.TheVariants.{Good}
use Rattle.core_model.specs.Names.{Name, at}
use Rattle.core_model.specs.Sources.{Text, Serving}
use Rattle.core_model.specs.FreshLoad.{Served}
use Rattle.core_model.specs.Client.{Client}
use Rattle.core_model.specs.Core.{client_at, step}
use Rattle.core_model.specs.Exchange.{event_of, message_for}
use Rattle.client_model.specs.Language.{Language}
use Rattle.client_model.specs.Runtime.{Runtime}
use Rattle.client_model.specs.Requesting.{request}
use Rattle.client_model.specs.Taking.{Taken, took, unexpected, instances_full, is_stopped}
use Rattle.world_model.specs.Turning.{take_some}
use Rattle.world_model.specs.World.{World, Step}
use Rattle.world_model.specs.Steps.{world_step, world_after}

-- the runtime of client i and the core's record of it
pub record IsTied (i : ℕ) (c : Client) (r : Runtime) : Type 0 where
  pub page : r.page ≡ c.page
  pub roots_are : r.roots ≡ c.roots
  pub number : r.client ≡ i
  pub counted : 1 ≤ i
  pub running : r.stopped ≡ false

-- an open client has a record, and is tied to it
abbrev pub TiedAt : ℕ → Option Client → Option Runtime → Type 0
TiedAt i c None = ⊤
TiedAt i None (Some r) = ⊥
TiedAt i (Some c) (Some r) = IsTied i c r

-- each open client is tied to its record
abbrev pub AreTied : World → Type 0
AreTied w = (i : ℕ) → TiedAt i (client_at w.core.clients i) (client_at w.clients i)

-- what is served is what transforming its text gives
abbrev pub IsServedRight : Language → Name → Option Serving → Type 0
IsServedRight language n None = ⊤
IsServedRight language n (Some s) = language.transformed n s.text ≡ Good s.analysis

abbrev pub AreServedRight : Language → Served → Type 0
AreServedRight language served = (n : Name) → IsServedRight language n (at served n)

-- the answer was one to the request that stood, of a client that goes on
abbrev pub IsUnderstood : Taken → Type 0
IsUnderstood (took lines) = ⊤
IsUnderstood (unexpected wanted got) = ⊥
IsUnderstood instances_full = ⊤
IsUnderstood is_stopped = ⊥

-- in a turn of the client i the core's answer is understood
abbrev pub UnderstandsAt : Language → List Name → World → ℕ → Option Runtime → Type 0
UnderstandsAt language roots w i None = ⊤
UnderstandsAt language roots w i (Some r) = IsUnderstood (take_some language r
    (message_for r.format (step roots w.core (event_of i (request language r))).1)).answer

abbrev pub Understands : Language → List Name → World → Type 0
Understands language roots w = (i : ℕ) → UnderstandsAt language roots w i (client_at w.clients i)

-- no client would have made too many instances so far
abbrev pub WentOn : Language → List Name → List (List (Text × ℕ)) → List Step → Type 0
WentOn language roots shelves [] = ⊤
WentOn language roots shelves (s ∷ past) =
    (is_some (world_step language roots shelves (world_after language roots shelves past) s).lines ≡ true)
    × WentOn language roots shelves past
