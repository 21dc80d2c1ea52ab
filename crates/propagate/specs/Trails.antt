-- The paths to the names that a search meets, kept as the place from which an edge led to each.
use Rattle.std.specs.Prelude.{◌≡◌, ◌<◌, [], ◌∷◌, ◌++◌}
use Rattle.std.specs.Prelude.{ℕ, not, List, length, filter, get_or, Option, Some, None, if◌then◌else◌}
use Rattle.core_model.specs.Names.{Name, has}

-- those of the names that aren't met
abbrev pub unmet : List Name → List Name → List Name
unmet met names = filter (λ n. not (has met n)) names

-- the places with one more at the end, where the name isn't met
abbrev pub with_from : List Name → List (Option ℕ) → Name → Option ℕ → List (Option ℕ)
with_from met from n place = if has met n then from else from ++ place ∷ []

-- the path to the name at place i: the name alone, or the path to an earlier place and then the name
abbrev pub IsTrail : List Name → List (List Name) → ℕ → Option ℕ → Type 0
IsTrail met paths i None = get_or paths i [] ≡ get_or met i [] ∷ []
IsTrail met paths i (Some k) = (k < i) × (get_or paths i [] ≡ get_or paths k [] ++ get_or met i [] ∷ [])

-- the paths to the names that are met, by the place from which an edge led to each
pub record AreTrails (met : List Name) (from : List (Option ℕ)) (paths : List (List Name)) : Type 0 where
  pub places : length from ≡ length met
  pub long : length paths ≡ length met
  pub each : (i : ℕ) → i < length met → IsTrail met paths i (get_or from i None)

-- there are such paths
pub record IsTraced (met : List Name) (from : List (Option ℕ)) : Type 0 where
  pub paths : List (List Name)
  pub are : AreTrails met from paths
