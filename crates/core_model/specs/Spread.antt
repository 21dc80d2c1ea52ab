-- How a change spreads: along imports turned round, until a module accepts it. It ends in a reload of
-- the page, or in an update of the modules that it passed.
use Rattle.std.specs.Prelude.{◌≡◌, ◌⊎◌, ◌≤◌, Bool, true, not, ◌&&◌, ◌||◌, List, [], ◌∷◌, ◌++◌, length, map}
use Rattle.std.specs.Prelude.{filter, flat_map, Option, Contains, if◌then◌else◌}
use Rattle.std.specs.List.{list_any}
use Prim.{⊥}
use Rattle.hmr_types.specs.declared.words.ReloadCause.{ReloadCause}
use Rattle.hmr_types.specs.declared.words.ReloadCause.TheVariants.{Root, Declined}
use Rattle.core_model.specs.Names.{Name, same_name, has, names_of, sorted}
use Rattle.core_model.specs.Paths.{IsPath, Reaches}
use Rattle.core_model.specs.Rounds.{reached_of}
use Rattle.core_model.specs.LeastPath.{IsLeastPath, least_path_of}
use Rattle.core_model.specs.View.{View, imports, accepts, self_accepts, declines}

-- a change of n passes on to m: m imports n and doesn't accept it, and n doesn't accept itself or is forced
abbrev pub passes : View → List Name → Name → Name → Bool
passes view forced n m =
    imports view m n && not (accepts view m n) && (not (self_accepts view n) || has forced n)

-- a change that comes to m wants a reload: m declines, or is a root that doesn't accept itself or is forced
abbrev pub ends_badly : View → List Name → List Name → Name → Bool
ends_badly view roots forced m =
    declines view m || (has roots m && (not (self_accepts view m) || has forced m))

-- an unaccepted path: from a changed or forced name on, each next name by a passing edge
abbrev pub IsUnaccepted : View → List Name → List Name → List Name → Name → Type 0
IsUnaccepted view changed forced path m = IsPath (passes view forced) (changed ++ forced) path m

-- some unaccepted path ends badly
pub record IsReloadWanted (view : View) (roots changed forced : List Name) : Type 0 where
  pub end : Name
  pub path : Reaches (passes view forced) (changed ++ forced) end
  pub badly : ends_badly view roots forced end ≡ true

-- the unaccepted path that is the reason of a reload: the least that ends badly
abbrev pub IsReason : View → List Name → List Name → List Name → List Name → Type 0
IsReason view roots changed forced path =
    IsLeastPath (passes view forced) (changed ++ forced) (ends_badly view roots forced) path

-- the reason, computed
abbrev pub reason_of : View → List Name → List Name → List Name → Option (List Name)
reason_of view roots changed forced =
    least_path_of (passes view forced) (names_of view) (changed ++ forced) (ends_badly view roots forced)

-- Declined where the last name declines, else Root
abbrev pub cause_of : View → List Name → ReloadCause
cause_of view [] = Root
cause_of view (n ∷ []) = if declines view n then Declined else Root
cause_of view (n ∷ (m ∷ path)) = cause_of view (m ∷ path)

-- m is the last name of an unaccepted path of at least two names
pub record IsPassedTo (view : View) (changed forced : List Name) (m : Name) : Type 0 where
  pub path : List Name
  pub is : IsUnaccepted view changed forced path m
  pub long : 2 ≤ length path

-- what an update replaces: what is changed, and what a change is passed to
abbrev pub IsReplaced : View → List Name → List Name → Name → Type 0
IsReplaced view changed forced m = Contains changed m ⊎ IsPassedTo view changed forced m

-- the names that unaccepted paths end at
abbrev pub spread_of : View → List Name → List Name → List Name
spread_of view changed forced = reached_of (passes view forced) (names_of view) (changed ++ forced)

-- the replaced names, rising by bytes
abbrev pub replaced_of : View → List Name → List Name → List Name
replaced_of view changed forced = sorted (changed
    ++ filter (λ m. list_any (λ n. passes view forced n m) (spread_of view changed forced)) (names_of view))

-- these are names of the view
abbrev pub AreIn : List Name → View → Type 0
AreIn names view = (n : Name) → Contains names n → has (names_of view) n ≡ true

-- n is replaced and accepts itself
pub record IsOwnPair (view : View) (changed forced : List Name) (m n : Name) : Type 0 where
  pub same : m ≡ n
  pub replaced : IsReplaced view changed forced n
  pub accepting : self_accepts view n ≡ true

-- m accepts n by name and stays, and n is replaced or forced
pub record IsNamedPair (view : View) (changed forced : List Name) (m n : Name) : Type 0 where
  pub accepting : accepts view m n ≡ true
  pub stays : IsReplaced view changed forced m → ⊥
  pub via : IsReplaced view changed forced n ⊎ Contains forced n

-- a boundary, and the module that it is told of
abbrev pub IsPair : View → List Name → List Name → Name → Name → Type 0
IsPair view changed forced m n = IsOwnPair view changed forced m n ⊎ IsNamedPair view changed forced m n

-- the test for a pair, given the replaced names
abbrev pub is_pair : View → List Name → List Name → Name → Name → Bool
is_pair view replaced forced m n = (same_name m n && has replaced n && self_accepts view n)
    || (accepts view m n && not (has replaced m) && (has replaced n || has forced n))

-- the pairs of a boundary
abbrev pub pairs_with : (Name → Name → Bool) → List Name → Name → List (Name × Name)
pairs_with test names m = map (λ n. (m, n)) (filter (test m) names)

-- the pairs, rising by boundary and then by via
abbrev pub pairs_of : View → List Name → List Name → List (Name × Name)
pairs_of view replaced forced =
    flat_map (pairs_with (is_pair view replaced forced) (sorted (names_of view))) (sorted (names_of view))
