-- What is looked up of links and exports.
use Rattle.std.specs.Prelude.{◌≡◌, Bool, true, false, not, ⊤, List, [], map, filter, Option, Some, None}
use Prim.{⊥}
use Rattle.core_model.specs.Names.{Name, has, at, sorted}
use Rattle.core_model.specs.Sources.{Serving}
use Rattle.core_model.specs.FreshLoad.{Served, imports}

-- a set has exactly the names of the list
abbrev pub AreMarks : List Name → List Name → Type 0
AreMarks set known = (m : Name) → has set m ≡ has known m

-- the list that is kept, or none
abbrev pub kept_or_none : Option (List Name) → List Name
kept_or_none None = []
kept_or_none (Some names) = names

-- a set of the names that a served module exports; none for what isn't served
abbrev pub IsExports : Option Serving → Option (List Name) → Type 0
IsExports None None = ⊤
IsExports None (Some set) = ⊥
IsExports (Some s) None = ⊥
IsExports (Some s) (Some set) = AreMarks set s.analysis.exports

-- the set of a module that was looked at; none of another
abbrev pub IsLookedAt : Bool → Option Serving → Option (List Name) → Type 0
IsLookedAt true s set = IsExports s set
IsLookedAt false s set = set ≡ None

-- the sets of these modules, and no others
abbrev pub AreExports : Served → List Name → List (Name × List Name) → Type 0
AreExports served names sets = (m : Name) → IsLookedAt (has names m) (at served m) (at sets m)

-- the sets of the names of this list are there
abbrev pub HaveExports : Served → List Name → List (Name × List Name) → Type 0
HaveExports served names sets = (m : Name) → has names m ≡ true → IsExports (at served m) (at sets m)

-- what modules of the list import is in the list
abbrev pub AreClosed : Served → List Name → Type 0
AreClosed served names = (n m : Name) → has names n ≡ true → imports served n m ≡ true → has names m ≡ true

-- the names that are imported and aren't in the set of what is exported
abbrev pub unlinked_in : Option (List Name) → List Name → Name → Name → List (Name × Name × Name)
unlinked_in None names n m = []
unlinked_in (Some set) names n m = map (λ x. (n, m, x)) (sorted (filter (λ x. not (has set x)) names))

-- what n imports from m, and m doesn't export, by look-up
abbrev pub unlinked_by : List (Name × List Name) → List (Name × List Name) → Name → Name
    → List (Name × Name × Name)
unlinked_by sets linked n m = unlinked_in (at sets m) (kept_or_none (at linked m)) n m
