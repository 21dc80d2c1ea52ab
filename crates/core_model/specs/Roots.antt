-- The roots of a page: those that its client names, or the server's.
use Rattle.std.specs.Prelude.{◌≡◌, ◌≤◌, nat_lt, Bool, true, not, ◌&&◌, ◌||◌, List, [], ◌∷◌, length}
use Rattle.hmr_types.specs.declared.limits.TheConstants.{ROOTS}
use Rattle.core_model.specs.Names.{Name, has}

-- no two are equal
abbrev pub are_distinct : List Name → Bool
are_distinct [] = true
are_distinct (n ∷ names) = not (has names n) && are_distinct names

-- the roots of a page: one at least, 16 at most, no two equal
pub record AreRoots (roots : List Name) : Type 0 where
  pub some : 1 ≤ length roots
  pub few : length roots ≤ ROOTS
  pub distinct : are_distinct roots ≡ true

-- a client may not name these: they are more than 16, or two of them are equal
abbrev pub are_bad : List Name → Bool
are_bad names = nat_lt ROOTS (length names) || not (are_distinct names)

-- the roots that a client names; where it names none, the server's
abbrev pub roots_or : List Name → List Name → List Name
roots_or [] roots = roots
roots_or (n ∷ names) roots = n ∷ names
