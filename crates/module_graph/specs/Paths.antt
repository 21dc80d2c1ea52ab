-- What a search has found so far.
use Rattle.std.specs.Prelude.{◌≡◌, ◌⊎◌, true, List, [], ◌∷◌, ◌++◌, Contains, if◌then◌else◌}
use Rattle.core_model.specs.Names.{Name, has}
use Rattle.core_model.specs.Roots.{are_distinct}

-- no two names are equal, and the marks are theirs
pub record AreMarked (marks names : List Name) : Type 0 where
  pub distinct : are_distinct names ≡ true
  pub marked : (n : Name) → has marks n ≡ has names n

-- the names with this one at the end, where it isn't there yet
abbrev pub with_new : List Name → Name → List Name
with_new names n = if has names n then names else names ++ n ∷ []

-- new is old with more behind it
pub record Extends (old new : List Name) : Type 0 where
  pub more : List Name
  pub whole : new ≡ old ++ more

-- new has what old and more have, in old's order
pub record Adds (old more new : List Name) : Type 0 where
  pub front : Extends old new
  pub all : (n : Name) → Contains more n → Contains new n
  pub only : (n : Name) → Contains new n → Contains old n ⊎ Contains more n
