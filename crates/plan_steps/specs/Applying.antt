-- What the code has of a plan that is applied, against the plan of the definitions.
use Rattle.std.specs.Prelude.{◌≡◌, ◌++◌, true, List, [], ◌∷◌, Option}
use Rattle.hmr_types.specs.declared.words.PlanKind.{PlanKind}
use Rattle.output_lines.specs.declared.out_line.OutLine.{OutLine}
use Rattle.output_lines.specs.declared.out_line.OutLine.TheVariants as line
use Rattle.core_model.specs.Names.{Name, names_of, rising}
use Rattle.core_model.specs.Page.{Plan, new_view}
use Rattle.core_model.specs.View.{View}
use Rattle.client_model.specs.Runtime.{Runtime}
use Rattle.page_plan.specs.Plans.{IsSamePlan}
use Rattle.page_state.specs.declared.page.Page.{Page}
use Rattle.plan_changes.specs.Changing.{HasChanged, page_done}
use Rattle.plan_changes.specs.Finding.{IsFoundIn, IsPageOf, IsToApply}
use Rattle.client_plan.specs.UnderWay.{IsReady}
use Rattle.plan_changes.specs.declared.finding.Found.{Found}
use Rattle.client_plan.specs.declared.under_way.Next.TheVariants.{Finish}
use Rattle.client_plan.specs.declared.under_way.Ready.{Ready}
use Rattle.client_plan.specs.declared.under_way.UnderWay.{UnderWay}

-- what is found for the plan that the code has is found for that of the definitions, and the page's modules
-- are then those that it makes
pub record IsTurned {F : Type 0} (u : UnderWay) (page : Page F) (before after : View) (forced : List Name)
    (left : Option Found) : Type 0 where
  pub found : (r : Runtime) (p : Plan) (ready : Ready) → IsPageOf r page before forced → u.next ≡ Finish ready
      → IsToApply r p u.plan ready u.trees.entries u.pairs.items → IsFoundIn r p page u.plan.kind ready left
  pub view : (r : Runtime) (p : Plan) (ready : Ready) → r.page.view ≡ before
      → rising (names_of before) ≡ true → u.next ≡ Finish ready → IsReady r p ready → IsSamePlan p u.plan
      → after ≡ new_view r.roots p r.page.view

-- the page is what the plan makes of it, and the lines tell that, and then that a plan of this kind is
-- applied
pub record IsApplied {F : Type 0} (r : Runtime) (p : Plan) (kind : PlanKind) (before after : Page F)
    (tells : List OutLine) : Type 0 where
  pub began : List OutLine
  pub page : HasChanged (page_done p.kind p r) r p before after [] began
  pub lines : tells ≡ began ++ line.Applied after.client kind ∷ []
