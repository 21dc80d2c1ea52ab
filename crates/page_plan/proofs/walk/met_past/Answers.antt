use Rattle.std.proofs.Common.{◌↔◌, ◌∙◌, Contains}
use Rattle.std.proofs.Math.Path.{subst}
use Rattle.core_model.specs.Names.{Name}
use Rattle.core_model.specs.Page.{Plan, plan_imports}
use Rattle.core_model.specs.Paths.{Reaches}
use Rattle.core_model.specs.View.{View}
use Rattle.page_plan.proofs.Making.{found_met}
use Rattle.page_plan.proofs.walk.met_past.Goals as goal

pub returns : goal.returns
returns c = c.in_ok-met.ensures ∙ found_met c.args.roots.now c.args.plan.now c.args.view.now c.in_ok-found.found.items
    (subst (λ (v : View). (m : Name) → Contains c.in_ok-found.found.items m ↔ Reaches (plan_imports c.args.plan.now v) c.args.roots.now m) c.of-imports.ensures.view
    (subst (λ (p : Plan). (m : Name) → Contains c.in_ok-found.found.items m ↔ Reaches (plan_imports p c.of-imports.result.view.now) c.args.roots.now m) c.of-imports.ensures.plan c.in_ok-found.ensures.exact))
