-- Every open client of the world.
use Rattle.std.specs.Prelude.{◌≡◌, ℕ, List, Some}
use Rattle.core_model.specs.Names.{Name}
use Rattle.core_model.specs.Sources.{Text}
use Rattle.core_model.specs.Core.{client_at}
use Rattle.client_model.specs.Language.{Language}
use Rattle.client_model.specs.Journal.{Journal}
use Rattle.client_model.specs.Runtime.{Runtime, Opening}
use Rattle.client_model.specs.Past.{Past, runtime_after, journal_of}
use Rattle.world_model.specs.World.{Step}
use Rattle.world_model.specs.Steps.{world_after}
use Rattle.world_model.specs.Ties.{WentOn}
use Rattle.world_laws.specs.Taken.{Life, life_of}

-- all that happened in client i of the world since it was opened, after these steps
abbrev pub journal_at : Language → List Name → List (List (Text × ℕ)) → List Step → ℕ → Journal
journal_at language roots shelves past i =
    let life : Life = life_of language roots shelves past i in
    journal_of language life.opening life.past

-- it holds of each open client of the world, and of all that happened in it since it was opened, after
-- every list of steps
abbrev pub OfEachClient : Language → List Name → (Runtime → Journal → Type 0) → Type 0
OfEachClient language roots Holds =
    (shelves : List (List (Text × ℕ))) (past : List Step) (i : ℕ) (r : Runtime) →
    WentOn language roots shelves past →
    client_at (world_after language roots shelves past).clients i ≡ Some r →
    Holds r (journal_at language roots shelves past i)

-- the client, and all that happened in it, are those of some run
pub record IsOfRun (language : Language) (r : Runtime) (journal : Journal) : Type 0 where
  pub opening : Opening
  pub past : Past
  pub client : r ≡ runtime_after language opening past
  pub happened : journal ≡ journal_of language opening past
