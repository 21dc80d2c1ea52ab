-- Which jobs of a list were taken, where those are left.
use Rattle.std.specs.Prelude.{◌≡◌, ◌-◌, List, drop, length, take}
use Rattle.transform_pool.specs.Tasks.{Task}

-- these are left of all
abbrev pub IsLeft : List Task → List Task → Type 0
IsLeft all left = left ≡ drop (length all - length left) all

-- the others were taken
abbrev pub taken_of : List Task → List Task → List Task
taken_of all left = take (length all - length left) all
