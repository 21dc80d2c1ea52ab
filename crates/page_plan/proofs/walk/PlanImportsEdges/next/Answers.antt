use Rattle.core_model.proofs.Planning.{plan_over}
use Rattle.module_graph.proofs.Searches.{has_same}
use Rattle.page_plan.proofs.walk.PlanImportsEdges.next.Goals as goal

pub returns-clause-exact : goal.returns-clause-exact
returns-clause-exact c = has_same _ _ c.in_ok-names.ensures

pub returns-clause-over : goal.returns-clause-over
returns-clause-over c = plan_over c.args.self.now.plan.now c.args.self.now.view.now
