-- A reverse index: for each name, the set of the modules that list it.
use Rattle.std.specs.Prelude.{◌≡◌, ◌&&◌, not, Bool, true, false, List, [], Option, None, Some, if◌then◌else◌}
use Rattle.std.specs.BTreeSet.{BTreeSet}
use Rattle.std.specs.Map.{lookup}
use Rattle.core_model.specs.Names.{Name, at, has, same_name}
use Rattle.core_model.specs.View.{View, Entry}

abbrev pub Sets : Type 0
Sets = List (Name × BTreeSet Name)

-- the names of a set, where there is one
abbrev pub names_in : Option (BTreeSet Name) → List Name
names_in None = []
names_in (Some set) = set.keys

-- the modules that list n
abbrev pub under : Sets → Name → List Name
under sets n = names_in (lookup (same_name n) sets)

-- m is among the modules that list n
abbrev pub is_under : Sets → Name → Name → Bool
is_under sets n m = has (under sets n) m

-- under each name are the modules of the view that list it; list takes a module's names from its entry
pub record IsTurned (list : Option Entry → List Name) (view : View) (sets : Sets) : Type 0 where
  pub is : (n m : Name) → is_under sets n m ≡ has (list (at view m)) n

-- the lister is under the names that pass; the others are where they were
pub record Places (lister : Name) (passes : Name → Bool) (old new : Sets) : Type 0 where
  pub own : (n : Name) → is_under new n lister ≡ passes n
  pub others : (n m : Name) → same_name lister m ≡ false → is_under new n m ≡ is_under old n m

-- the lister is under some of the names too, and else where it was
pub record PlacesSome (lister : Name) (names : List Name) (old new : Sets) : Type 0 where
  pub some : List Name
  pub within : (n : Name) → has some n ≡ true → has names n ≡ true
  pub placed : Places lister (λ n. if has some n then true else is_under old n lister) old new

-- the lister goes from under the names that aren't kept, and is else where it was
abbrev pub Leaves : Name → List Name → List Name → Sets → Sets → Type 0
Leaves lister names kept old new =
    Places lister (λ n. if has names n && not (has kept n) then false else is_under old n lister) old new

-- these modules are under no name; the others are where they were
pub record IsWithout (listers : List Name) (old new : Sets) : Type 0 where
  pub is : (n m : Name) → is_under new n m ≡ (if has listers m then false else is_under old n m)
