-- Lists of names that go on by edges: what is reached, and by which list.
use Rattle.std.specs.Prelude.{◌≡◌, Bool, true, List, [], ◌∷◌, Contains}
use Rattle.core_model.specs.Names.{Name}
use Prim.{⊥}

-- from n on, each next name of the list is by an edge from the one before, and the last is m
abbrev pub Leads : (Name → Name → Bool) → Name → List Name → Name → Type 0
Leads edge n [] m = n ≡ m
Leads edge n (k ∷ rest) m = (edge n k ≡ true) × Leads edge k rest m

-- the list begins with one of the starts, goes on by edges, and ends at m
abbrev pub IsPath : (Name → Name → Bool) → List Name → List Name → Name → Type 0
IsPath edge starts [] m = ⊥
IsPath edge starts (n ∷ rest) m = Contains starts n × Leads edge n rest m

-- some list does
pub record Reaches (edge : Name → Name → Bool) (starts : List Name) (m : Name) : Type 0 where
  pub path : List Name
  pub is : IsPath edge starts path m
