-- A plan's walk in steps: a list of tasks, the next first, and what the walk met and left so far. The
-- walk stops where it comes to a module that isn't fetched, and goes on from there once it is.
use Rattle.std.specs.Prelude.{◌≡◌, [], ◌∷◌, ◌++◌}
use Rattle.std.specs.Prelude.{ℕ, zero, suc, true, List, map, filter, Option, is_some, is_none, if◌then◌else◌}
use Rattle.page_plan.specs.declared.tasks.Task.{Task}
use Rattle.page_plan.specs.declared.tasks.Task.TheVariants.{Visit, Leave}
use Rattle.core_model.specs.Names.{Name, has, first_of}
use Rattle.core_model.specs.View.{View}
use Rattle.core_model.specs.Page.{Plan, entry_at}
use Rattle.client_model.specs.Order.{Walked, met_too, left_too, next_of, fetch_order}

-- what is left to be done, the next first, and what was met and left
pub record Walking : Type 0 where
  pub tasks : List Task
  pub walked : Walked

-- the visits of these modules, in order
abbrev pub visits : List Name → List Task
visits names = map Visit names

-- a module that wasn't met is met; what it leads to is visited next, and then it is left
abbrev pub meet : (Name → List Name) → Name → List Task → Walked → Walking
meet next n tasks w = record { tasks = visits (next n) ++ Leave n ∷ tasks; walked = met_too n w }

-- the next task is done; a module that was met before is passed
abbrev pub done_one : (Name → List Name) → List Task → Walked → Walking
done_one next [] w = record { tasks = []; walked = w }
done_one next (Visit n ∷ tasks) w = if has w.met n then record { tasks = tasks; walked = w }
    else meet next n tasks w
done_one next (Leave n ∷ tasks) w = record { tasks = tasks; walked = left_too n w }

-- one task more is done
abbrev pub step : (Name → List Name) → Walking → Walking
step next s = done_one next s.tasks s.walked

-- so many tasks are done
abbrev pub steps : (Name → List Name) → ℕ → Walking → Walking
steps next zero s = s
steps next (suc k) s = step next (steps next k s)

-- the walk begins with the visits of the roots
abbrev pub start : List Name → Walking
start roots = record { tasks = visits roots; walked = record { met = []; left = [] } }

-- what is kept of a walk: the tasks, the next first, a list of the names met, and those left in order
pub record KeptWalk : Type 0 where
  pub tasks : List Task
  pub met : List Name
  pub left : List Name

-- what is kept is a moment of the plan's walk, at which all that was met is kept or fetched
pub record IsAt (roots : List Name) (p : Plan) (view : View) (kept : KeptWalk) : Type 0 where
  pub count : ℕ
  pub walked : Walked
  pub at : steps (next_of p view) count (start roots) ≡ record { tasks = kept.tasks; walked = walked }
  pub left : walked.left ≡ kept.left
  pub met : (n : Name) → has walked.met n ≡ has kept.met n
  pub fetched : (n : Name) → has walked.met n ≡ true → is_some (entry_at p view n) ≡ true

-- the first name of the plan's walk that isn't kept and isn't fetched
abbrev pub needed_of : List Name → Plan → View → Option Name
needed_of roots p view = first_of (filter (λ n. is_none (entry_at p view n)) (fetch_order roots p view))
