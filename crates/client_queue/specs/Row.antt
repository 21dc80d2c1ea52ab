-- Names in a row, each once, and a map from each name to its place. The marked ones come first.
use Rattle.std.specs.Prelude.{◌≡◌}
use Rattle.std.specs.Prelude.{ℕ, Bool, List, Option, Some, map, nat_eq, nat_lt, slice_get, if◌then◌else◌}
use Rattle.std.specs.BTreeMap.{IsOrdered}
use Rattle.std.specs.Cmp.Lexicographic.{slice_cmp}
use Rattle.std.specs.Option.{option_map}
use Rattle.std.specs.Ordering.{nat_cmp}
use Rattle.core_model.specs.Names.{Name, at, same_name}
use Rattle.client_queue.specs.declared.name_row.NameRow.{NameRow}

-- each name has the place at which it stands
pub record IsRow (row : NameRow) : Type 0 where
  pub ordered : IsOrdered (slice_cmp nat_cmp) row.places
  pub stands : (n : Name) (p : ℕ) → at row.places.entries n ≡ Some p → slice_get row.names.items p ≡ Some n
  pub told : (n : Name) (p : ℕ) → slice_get row.names.items p ≡ Some n → at row.places.entries n ≡ Some p

-- afterwards the name has this value, or isn't there, and each other name is as it was
abbrev pub IsSetAt : {X : Type 0} → Name → Option X → List (Name × X) → List (Name × X) → Type 0
IsSetAt n value old new = (m : Name) → at new m ≡ (if same_name n m then value else at old m)

-- where a place comes to when two places are exchanged
abbrev pub exchanged : ℕ → ℕ → ℕ → ℕ
exchanged i j p = if nat_eq p i then j else (if nat_eq p j then i else p)

-- the name of a place is marked where the place is one of the first
abbrev pub mark_of : ℕ → Option ℕ → Option Bool
mark_of count place = option_map (λ p. nat_lt p count) place

-- the names with their marks, in the order of the names
abbrev pub marks_of : ℕ → List (Name × ℕ) → List (Name × Bool)
marks_of count places = map (λ entry. (entry.0, nat_lt entry.1 count)) places
