-- What is known where a plan is applied to a page, and what is found then.
use Rattle.std.specs.Prelude.{◌≡◌, false, List, Option, Some, None}
use Prim.{⊥}
use Rattle.hmr_types.specs.declared.words.PlanKind.{PlanKind}
use Rattle.hmr_types.specs.declared.words.PlanKind.TheVariants.{Load}
use Rattle.module_tree.specs.declared.tree.Module.{Module}
use Rattle.core_model.specs.Names.{Name, at}
use Rattle.core_model.specs.Page.{Plan}
use Rattle.core_model.specs.View.{View}
use Rattle.client_model.specs.Runtime.{Runtime}
use Rattle.page_plan.specs.Plans.{IsSamePlan}
use Rattle.page_state.specs.Live.{number_of}
use Rattle.page_state.specs.Standing.{StandsFor}
use Rattle.page_state.specs.declared.page.Page.{Page}
use Rattle.plan_changes.specs.Changing.{AreMade, IsChange}
use Rattle.client_plan.specs.UnderWay.{HasTrees, IsReady}
use Rattle.plan_changes.specs.declared.finding.Found.{Found}
use Rattle.client_plan.specs.declared.under_way.Ready.{Ready}

-- the page, its modules and its forced names are the client's; what is live is on the page, and before the
-- page is loaded nothing is live
pub record IsPageOf {F : Type 0} (r : Runtime) (page : Page F) (view : View) (forced : List Name) : Type 0 where
  pub stands : StandsFor r page
  pub viewed : r.page.view ≡ view
  pub forcing : r.page.forced ≡ forced
  pub on_page : (n : Name) → at view n ≡ None → number_of page.live n ≡ None
  pub unloaded : r.page.loaded ≡ false → (n : Name) → number_of page.live n ≡ None

-- the plan and the client of the definitions, with what the code has of the plan
pub record IsToApply (r : Runtime) (p kept : Plan) (ready : Ready) (trees : List (Name × Module))
    (boundaries : List (Name × Name)) : Type 0 where
  pub plan : IsSamePlan p kept
  pub ends : IsReady r p ready
  pub texts : HasTrees r trees
  pub pairs : r.pairs ≡ boundaries
  pub loads : kept.kind ≡ Load → r.page.loaded ≡ false

-- what is found is the plan's
pub record IsFound {F : Type 0} (r : Runtime) (p : Plan) (page : Page F) (found : Found) : Type 0 where
  pub changes : IsChange r p found.change
  pub made : AreMade r p page found.births.items

-- it is found, for a plan of this kind that ends so
pub record IsFoundFor {F : Type 0} (r : Runtime) (p : Plan) (page : Page F) (planned : PlanKind) (ready : Ready)
    (it : Found) : Type 0 where
  pub found : IsFound r p page it
  pub kind : it.kind ≡ planned
  pub whole : it.whole ≡ ready.whole

-- something is found
abbrev pub IsFoundIn : {F : Type 0} → Runtime → Plan → Page F → PlanKind → Ready → Option Found → Type 0
IsFoundIn r p page kind ready None = ⊥
IsFoundIn r p page kind ready (Some found) = IsFoundFor r p page kind ready found
