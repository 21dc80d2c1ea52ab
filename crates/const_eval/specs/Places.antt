-- Where a name stands among entries, and what variables hold that were given values since.
use Rattle.std.specs.Prelude.{◌≡◌, [], ◌∷◌}
use Rattle.std.specs.Prelude.{ℕ, suc, if◌then◌else◌, List, Option, Some, None, bytes_eq, slice_get}
use Rattle.std.specs.BTreeMap.{BTreeMap, get, get_by}
use Rattle.std.specs.Cmp.Lexicographic.{slice_cmp}
use Rattle.std.specs.Option.{option_map}
use Rattle.std.specs.Ordering.{nat_cmp}
use Rattle.hmr_types.specs.declared.value.Slot.{Slot}

-- the first place of a name, from 0, if it is there
unfoldable pub place_among : {V : Type 0} → List ℕ → List (List ℕ × V) → Option ℕ
place_among n [] = None
place_among n (e ∷ es) = if bytes_eq e.0 n then Some 0 else option_map suc (place_among n es)

-- what the entry at a place holds, if there is one
unfoldable pub held_in : {V : Type 0} → List (List ℕ × V) → Option ℕ → Option V
held_in es None = None
held_in es (Some place) = option_map (λ e. e.1) (slice_get es place)

-- for each name the index tells its first place
pub record TellsPlaces (places : BTreeMap (List ℕ) ℕ) (es : List (List ℕ × Slot)) : Type 0 where
  pub each : (n : List ℕ) → get_by (slice_cmp nat_cmp n) places ≡ place_among n es

-- what is held now, where this was held first
abbrev pub now_held : Slot → Option Slot → Slot
now_held first None = first
now_held first (Some later) = later

-- the entries, where those at some places hold something later
unfoldable pub with_later : (ℕ → Option Slot) → List (List ℕ × Slot) → List (List ℕ × Slot)
with_later later [] = []
with_later later (e ∷ es) = (e.0, now_held e.1 (later 0)) ∷ with_later (λ i. later (suc i)) es

-- the variables that held this at first, where these were given something by their places
unfoldable pub variables : List (List ℕ × Slot) → BTreeMap ℕ Slot → List (List ℕ × Slot)
variables first given = with_later (get nat_cmp given) first
