-- Of the paths with a bad end the one with the fewest names, and of these the least by bytes, name by
-- name: as a relation, and computed.
use Rattle.std.specs.Prelude.{◌≡◌, ◌⊎◌, ℕ, zero, suc, ◌+◌, ◌<◌, Bool, true, false, List, [], ◌∷◌, length}
use Rattle.std.specs.Prelude.{filter, Option, Some, None, option_map, if◌then◌else◌}
use Rattle.std.specs.declared.cmp.Ordering.{Ordering}
use Rattle.std.specs.Ordering.{nat_cmp, is_lt, is_gt}
use Rattle.std.specs.Cmp.Lexicographic.{slice_cmp}
use Rattle.core_model.specs.Names.{Name}
use Rattle.core_model.specs.Paths.{IsPath}

-- two lists of names, by the first names that differ
abbrev pub path_cmp : List Name → List Name → Ordering
path_cmp = slice_cmp (slice_cmp nat_cmp)

-- p isn't after q, name by name
abbrev pub NotAfter : List Name → List Name → Type 0
NotAfter p q = is_gt (path_cmp p q) ≡ false

-- p has fewer names than q, or as many and isn't after it
abbrev pub AtMost : List Name → List Name → Type 0
AtMost p q = (length p < length q) ⊎ ((length p ≡ length q) × NotAfter p q)

-- a path with a bad end, and each other such path comes after it
pub record IsLeastPath (edge : Name → Name → Bool) (starts : List Name) (bad : Name → Bool)
    (path : List Name) : Type 0 where
  pub end : Name
  pub is : IsPath edge starts path end
  pub badly : bad end ≡ true
  pub least : (other : List Name) (m : Name) → IsPath edge starts other m → bad m ≡ true → AtMost path other

-- the lesser of two paths
abbrev pub lesser : Option (List Name) → Option (List Name) → Option (List Name)
lesser None q = q
lesser (Some p) None = Some p
lesser (Some p) (Some q) = if is_lt (path_cmp q p) then Some q else Some p

-- the least of what f has for the names
abbrev pub least : (Name → Option (List Name)) → List Name → Option (List Name)
least f [] = None
least f (n ∷ names) = lesser (f n) (least f names)

-- the least path from n of k + 1 names that has a bad end
abbrev pub least_from : (Name → Name → Bool) → List Name → (Name → Bool) → ℕ → Name → Option (List Name)
least_from edge names bad zero n = if bad n then Some (n ∷ []) else None
least_from edge names bad (suc k) n =
    option_map (λ path. n ∷ path) (least (least_from edge names bad k) (filter (edge n) names))

-- the first that is there
abbrev pub or_next : Option (List Name) → Option (List Name) → Option (List Name)
or_next None next = next
or_next (Some path) next = Some path

-- what f has first, from k on
abbrev pub shortest : (ℕ → Option (List Name)) → ℕ → ℕ → Option (List Name)
shortest f k zero = None
shortest f k (suc more) = let next : Option (List Name) = shortest f (suc k) more in or_next (f k) next

-- the least path from the starts, where each edge leads to one of the names
abbrev pub least_path_of : (Name → Name → Bool) → List Name → List Name → (Name → Bool) → Option (List Name)
least_path_of edge names starts bad =
    shortest (λ k. least (least_from edge names bad k) starts) 0 (1 + length names)
