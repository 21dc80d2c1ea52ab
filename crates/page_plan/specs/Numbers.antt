-- The numbers of new instances, by name.
use Rattle.std.specs.Prelude.{ℕ, List, Option}
use Rattle.core_model.specs.Names.{Name, at}

-- names with the numbers of their new instances
abbrev pub NewNumbers : Type 0
NewNumbers = List (Name × ℕ)

-- the number of the new instance of a name
abbrev pub new_number : NewNumbers → Name → Option ℕ
new_number numbers n = at numbers n
