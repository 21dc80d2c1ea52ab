-- The closures that each client gets from the embedding program, where it hasn't come yet.
use Rattle.std.specs.Prelude.{◌≡◌, ◌≤◌, ℕ, List, slice_get}
use Rattle.std.specs.Option.{option_map}
use Rattle.std.specs.List.{All}
use Rattle.core_model.specs.Sources.{Text}
use Rattle.handler_table.specs.Held.{Answers, Closure, IsHost}
use Rattle.handler_table.specs.Shelf.{marks_of}

-- the closures of each client, from the first
abbrev pub Shelves : Type 0 → Type 0
Shelves F = List (List (Closure F))

-- no client but the first so many has taken its closures
abbrev pub AreShelves : {F : Type 0} → ℕ → List (List (Text × ℕ)) → Shelves F → Type 0
AreShelves given marks shelves = (place : ℕ) → given ≤ place
    → option_map marks_of (slice_get shelves place) ≡ slice_get marks place

-- each closure answers what is stated for it
abbrev pub AreHosts : {F : Type 0} → Answers F → Shelves F → Type 0
AreHosts answers shelves = All (All (IsHost answers)) shelves
