-- How what an evaluation has made grows.
use Rattle.std.specs.Prelude.{◌≡◌, List, ◌++◌}
use Rattle.module_semantics.specs.Entries.{names_of}
use Rattle.module_semantics.specs.Bodies.{State}

-- the second list begins with the first
abbrev pub Continues : {A : Type 0} → List A → List A → Type 0
Continues {A} front whole = (rest : List A) × (whole ≡ front ++ rest)

-- all that was made is still there, in its order, and each name and each key keeps its place
pub record Extends (before after : State) : Type 0 where
  pub names : Continues (names_of before.vars) (names_of after.vars)
  pub keys : Continues (names_of before.bag) (names_of after.bag)
  pub lines : Continues before.lines after.lines
  pub changes : Continues before.changes after.changes
  pub invalidations : Continues before.invalidations after.invalidations
  pub registered : Continues before.registered after.registered
