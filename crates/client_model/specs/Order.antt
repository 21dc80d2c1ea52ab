-- The order of a plan's walk: depth first from the roots, imports in the order in which the text first
-- names them, each module once.
use Rattle.std.specs.Prelude.{ℕ, zero, suc, List, [], ◌∷◌, ◌++◌, length, fold, if◌then◌else◌}
use Rattle.core_model.specs.Names.{Name, has}
use Rattle.core_model.specs.View.{View, imports_of, imported_of}
use Rattle.core_model.specs.Page.{Plan, entry_at}

-- the modules that the walk met so far, and those that it has left, each in their order
pub record Walked : Type 0 where
  pub met : List Name
  pub left : List Name

-- one more module is met
abbrev pub met_too : Name → Walked → Walked
met_too n w = record w { met = w.met ++ n ∷ [] }

-- one more module is left
abbrev pub left_too : Name → Walked → Walked
left_too n w = record w { left = w.left ++ n ∷ [] }

-- a module that was met before is passed; else it is met, then what it leads to, then it is left
abbrev pub visit : (List Name → Walked → Walked) → (Name → List Name) → Walked → Name → Walked
visit deeper next w n =
    let visited : Walked = left_too n (deeper (next n) (met_too n w)) in
    if has w.met n then w else visited

-- the modules of a list are visited in order, so deep at most
abbrev pub walk : ℕ → (Name → List Name) → List Name → Walked → Walked
walk zero next names w = w
walk (suc depth) next names w = fold (visit (walk depth next) next) w names

-- no walk goes deeper than there are names to meet
abbrev pub depth_of : List Name → Plan → View → ℕ
depth_of roots p view = suc (length (roots ++ (imported_of view ++ imported_of p.staged)))

-- what a module of the plan leads to
abbrev pub next_of : Plan → View → Name → List Name
next_of p view n = imports_of (entry_at p view n)

-- the whole walk of a plan
abbrev pub walked : List Name → Plan → View → Walked
walked roots p view = walk (depth_of roots p view) (next_of p view) roots (record { met = []; left = [] })

-- the walk's modules, each before what it leads to
abbrev pub fetch_order : List Name → Plan → View → List Name
fetch_order roots p view = (walked roots p view).met

-- the walk's modules, each after what is first met through it
abbrev pub evaluation_order : List Name → Plan → View → List Name
evaluation_order roots p view = (walked roots p view).left
