-- What one task of a walk has come to, and what bounds how many tasks follow.
use Rattle.std.specs.Prelude.{◌≡◌, ℕ, ◌+◌, ◌-◌, ◌*◌, ◌^◌, List, length, Some, None, ⊤}
use Rattle.core_model.specs.Names.{Name}
use Rattle.core_model.specs.View.{View}
use Rattle.core_model.specs.Page.{Plan}
use Rattle.client_model.specs.Order.{evaluation_order}
use Rattle.page_plan.specs.declared.tasks.Turn.{Turn}
use Rattle.page_plan.specs.declared.tasks.Turn.TheVariants.{More, Needs, Done}
use Rattle.page_plan.specs.Walking.{KeptWalk, needed_of}

-- at the end nothing is needed, and what was left is the order of evaluation
pub record IsEnd (roots : List Name) (p : Plan) (view : View) (left : List Name) : Type 0 where
  pub needed : needed_of roots p view ≡ None
  pub order : left ≡ evaluation_order roots p view

-- the walk came to the end, or to the module that is needed
abbrev pub IsTurn : List Name → Plan → View → List Name → Turn → Type 0
IsTurn roots p view left More = ⊤
IsTurn roots p view left (Needs n) = needed_of roots p view ≡ Some n
IsTurn roots p view left Done = IsEnd roots p view left

-- where there are more tasks
abbrev pub OnMore : Type 0 → Turn → Type 0
OnMore P More = P
OnMore P (Needs n) = ⊤
OnMore P Done = ⊤

-- names that can still be met, and tasks: it falls with each task
abbrev pub room : KeptWalk → ℕ
room k = (2 ^ 64 - length k.met) * 2 ^ 64 + length k.tasks
