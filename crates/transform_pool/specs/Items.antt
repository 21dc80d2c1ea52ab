-- What stands in a queue of jobs and end marks, oldest first.
use Rattle.std.specs.Prelude.{ℕ, ◌+◌, Bool, true, false, List, [], ◌∷◌}
use Rattle.transform_pool.specs.Tasks.{Task}
use Rattle.transform_pool.specs.declared.item.Item.{Item}
use Rattle.transform_pool.specs.declared.item.Item.TheVariants.{Job, End}

-- no item is a job
abbrev pub no_jobs : List Item → Bool
no_jobs [] = true
no_jobs (Job j ∷ xs) = false
no_jobs (End ∷ xs) = no_jobs xs

-- no item is an end mark
abbrev pub no_ends : List Item → Bool
no_ends [] = true
no_ends (Job j ∷ xs) = no_ends xs
no_ends (End ∷ xs) = false

-- no job stands behind an end mark
abbrev pub in_order : List Item → Bool
in_order [] = true
in_order (Job j ∷ xs) = in_order xs
in_order (End ∷ xs) = no_jobs xs

-- the jobs among the items
abbrev pub jobs_in : List Item → List Task
jobs_in [] = []
jobs_in (Job j ∷ xs) = j ∷ jobs_in xs
jobs_in (End ∷ xs) = jobs_in xs

-- how many of the items are end marks
abbrev pub ends_in : List Item → ℕ
ends_in [] = 0
ends_in (Job j ∷ xs) = ends_in xs
ends_in (End ∷ xs) = ends_in xs + 1
