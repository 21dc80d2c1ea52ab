-- How boundaries are told of modules.
use Rattle.std.specs.Prelude.{◌≡◌, ◌<◌, ℕ, suc, List, [], ◌∷◌, Some, is_some, ⊤}
use Prim.{⊥}
use Rattle.core_model.specs.Names.{Name, has}
use Rattle.core_model.specs.Page.{Plan}
use Rattle.client_model.specs.Applying.{run_own, run_dep, tell_boundary}
use Rattle.client_model.specs.Instance.{live_at}
use Rattle.client_model.specs.Linking.{new_names, number_in}
use Rattle.client_model.specs.Runtime.{Runtime, Did, nothing}
use Rattle.module_language.specs.ModuleLanguage.{module_language}
use Rattle.page_plan.specs.Numbers.{NewNumbers, new_number}
use Rattle.page_ends.specs.declared.tell.Telling.{Telling}
use Rattle.page_ends.specs.declared.tell.Telling.TheVariants.{Own, Dep, Silent}
use Rattle.page_ends.specs.declared.tell.Told.{Told}

-- the place, where there is one, is below this
abbrev pub is_within : Telling → ℕ → Type 0
is_within (Own place) count = place < count
is_within Dep count = ⊤
is_within Silent count = ⊤

-- the live instance of a boundary is told of a module
abbrev pub tell_live : Name → Name → Runtime → Did
tell_live boundary n r = run_dep module_language (number_in (live_at r.instances boundary)) n r

-- a boundary is told of a module so
abbrev pub told_by : Name → Name → Telling → Runtime → Did
told_by boundary n (Own place) = run_own module_language (Some (suc place)) n
told_by boundary n Dep = tell_live boundary n
told_by boundary n Silent = nothing

-- a row is carried out
abbrev pub told : Told → Runtime → Did
told t = told_by t.boundary t.name t.telling

-- what is known of a plan: which modules get a new instance, and which are forced
pub record IsAsKnown (numbers : NewNumbers) (forced : List Name) (p : Plan) (r : Runtime) : Type 0 where
  pub is_new : (n : Name) → has (new_names p r) n ≡ is_some (new_number numbers n)
  pub is_forced : (n : Name) → has r.page.forced n ≡ has forced n

-- the rows are the pairs, one by one
abbrev pub AreTold : Plan → Runtime → List Told → List (Name × Name) → Type 0
AreTold p r [] [] = ⊤
AreTold p r [] (pair ∷ pairs) = ⊥
AreTold p r (t ∷ rows) [] = ⊥
AreTold p r (t ∷ rows) (pair ∷ pairs) =
    ((now : Runtime) → told t now ≡ tell_boundary module_language p r pair now) × AreTold p r rows pairs
