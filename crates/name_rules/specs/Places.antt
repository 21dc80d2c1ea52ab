-- The places at which names stand first, by a map.
use Rattle.std.specs.Prelude.{◌≡◌, ℕ, suc, List, [], ◌∷◌, if◌then◌else◌, Option, Some, None}
use Rattle.std.specs.Option.{option_map, option_or}
use Rattle.std.specs.Str.{bytes_eq}
use Rattle.std.specs.BTreeMap.{is_at}
use Rattle.std.specs.Cmp.Lexicographic.{slice_cmp}
use Rattle.std.specs.Map.{lookup}
use Rattle.std.specs.Ordering.{nat_cmp}

-- the place at which a name stands first, if it is one of them
abbrev pub place_among : List ℕ → List (List ℕ) → Option ℕ
place_among n [] = None
place_among n (m ∷ ms) = if bytes_eq n m then Some 0 else option_map suc (place_among n ms)

-- the place that is kept for a name
abbrev pub place_kept : List ℕ → List (List ℕ × ℕ) → Option ℕ
place_kept n places = lookup (is_at (slice_cmp nat_cmp n)) places

-- for each name the place is kept at which it stands first among these
abbrev pub TellsPlaces : List (List ℕ × ℕ) → List (List ℕ) → Type 0
TellsPlaces places ns = (n : List ℕ) → place_kept n places ≡ place_among n ns

-- afterwards the place is kept for the name, unless one was; for others what was kept is kept
abbrev pub KeepsFirst : List ℕ → ℕ → List (List ℕ × ℕ) → List (List ℕ × ℕ) → Type 0
KeepsFirst name place before after = (n : List ℕ)
    → place_kept n after ≡ option_or (place_kept n before) (if bytes_eq n name then Some place else None)
