-- The reached names, computed: in each round the known names take what edges lead to among those
-- that are left, until nothing is new.
use Rattle.std.specs.Prelude.{◌≡◌, ℕ, zero, suc, Bool, true, not, List, [], ◌∷◌, ◌++◌, length, filter}
use Rattle.std.specs.List.{list_any}
use Rattle.core_model.specs.Names.{Name, has}

-- an edge leads from one of the known names to m
abbrev pub touched : (Name → Name → Bool) → List Name → Name → Bool
touched edge known m = list_any (λ n. edge n m) known

-- stop where nothing is new
abbrev pub on_new : List Name → List Name → List Name → List Name
on_new [] stop more = stop
on_new (x ∷ xs) stop more = more

-- so many rounds over the names that are left
abbrev pub rounds : (Name → Name → Bool) → ℕ → List Name → List Name → List Name
rounds edge zero left known = known
rounds edge (suc k) left known = on_new (filter (touched edge known) left) known (rounds edge k
    (filter (λ m. not (touched edge known m)) left) (known ++ filter (touched edge known) left))

-- what the starts reach, where each edge leads to one of the names
abbrev pub reached_of : (Name → Name → Bool) → List Name → List Name → List Name
reached_of edge names starts = rounds edge (length names) names starts

-- each edge leads to one of the names
abbrev pub IsOver : (Name → Name → Bool) → List Name → Type 0
IsOver edge names = (n m : Name) → edge n m ≡ true → has names m ≡ true
