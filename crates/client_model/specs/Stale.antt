-- Edges at which a live module holds an older instance of what it imports, and the updates that stopped
-- there.
use Rattle.std.specs.Prelude.{◌≡◌, ◌≢◌, ◌⊎◌, ℕ, ◌==◌, Bool, true, false, not, List, [], ◌∷◌, map, filter}
use Rattle.std.specs.Prelude.{flat_map, Option, Some, None, IsSome}
use Prim.{⊥}
use Rattle.hmr_types.specs.declared.words.PlanKind.{PlanKind}
use Rattle.hmr_types.specs.declared.words.PlanKind.TheVariants.{Load, Reload, Update}
use Rattle.core_model.specs.Names.{Name, at, names_of, sorted}
use Rattle.core_model.specs.View.{imports, imports_of}
use Rattle.core_model.specs.Page.{Plan}
use Rattle.client_model.specs.Language.{Language}
use Rattle.client_model.specs.Instance.{Instance, live_at}
use Rattle.client_model.specs.Runtime.{Runtime, Opening}
use Rattle.client_model.specs.Linking.{number_in}
use Rattle.client_model.specs.Past.{Past, runtime_after}

-- the number of the live instance of a name
abbrev pub live_number : Runtime → Name → Option ℕ
live_number r n = number_in (live_at r.instances n)

-- the number that an instance holds for a dependency
abbrev pub link_in : Option Instance → Name → Option ℕ
link_in None x = None
link_in (Some i) x = at i.links x

-- the number that the live instance of b holds for x
abbrev pub link_of : Runtime → Name → Name → Option ℕ
link_of r b x = link_in (live_at r.instances b) x

-- the same number, or none both times
abbrev pub same_link : Option ℕ → Option ℕ → Bool
same_link None None = true
same_link None (Some k) = false
same_link (Some j) None = false
same_link (Some j) (Some k) = j == k

-- b is live and imports x, and what it holds isn't x's live number
pub record IsStale (r : Runtime) (b x : Name) : Type 0 where
  pub live : IsSome (live_at r.instances b)
  pub importing : imports r.page.view b x ≡ true
  pub older : link_of r b x ≢ live_number r x

-- the stale edges, rising by importer and then by dependency
abbrev pub stale_from : Runtime → Name → List (Name × Name)
stale_from r b = map (λ x. (b, x))
    (filter
    (λ x. not (same_link (link_of r b x) (live_number r x))) (sorted (imports_of (at r.page.view b))))

-- all stale edges, rising by importer and then by dependency
abbrev pub stale_of : Runtime → List (Name × Name)
stale_of r = flat_map (stale_from r) (sorted (names_of r.page.view))

-- whether the plan is an update
abbrev pub is_update : PlanKind → Bool
is_update Load = false
is_update Reload = false
is_update Update = true

-- an update is under way
abbrev pub is_updating : Option Plan → Bool
is_updating None = false
is_updating (Some p) = is_update p.kind

-- Between these two moments an update was applied that stopped at the edge from b to x: it made a new
-- instance of x in place of a live one, and b's instance number k, which imports x, was live before it
-- and is live after it.
pub record StopsAt (before after : Runtime) (k : ℕ) (b x : Name) : Type 0 where
  pub updating : is_updating before.page.plan ≡ true
  pub importing : imports before.page.view b x ≡ true
  pub was : live_number before b ≡ Some k
  pub is : live_number after b ≡ Some k
  pub old : IsSome (live_number before x)
  pub new : IsSome (live_number after x)
  pub renewed : live_number before x ≢ live_number after x

-- some update did, since the instance was made
abbrev pub Stopped : Language → Opening → Past → ℕ → Name → Name → Type 0
Stopped language opening [] k b x = ⊥
Stopped language opening (came ∷ past) k b x =
    StopsAt (runtime_after language opening past) (runtime_after language opening (came ∷ past)) k b x
    ⊎ Stopped language opening past k b x
