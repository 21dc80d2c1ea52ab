use Rattle.core_model.proofs.Views.{over}
use Rattle.module_graph.proofs.Searches.{has_same}
use Rattle.module_graph.proofs.search.ImportsEdges.next.Goals as goal

pub returns-clause-exact : goal.returns-clause-exact
returns-clause-exact c = has_same _ _ c.in_ok-names.ensures

pub returns-clause-over : goal.returns-clause-over
returns-clause-over c = over c.args.self.now.view.now
