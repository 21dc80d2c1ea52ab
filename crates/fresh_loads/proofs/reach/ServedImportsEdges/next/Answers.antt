use Rattle.module_graph.proofs.Searches.{has_same}
use Rattle.fresh_loads.proofs.Reaching.{over}
use Rattle.fresh_loads.proofs.reach.ServedImportsEdges.next.Goals as goal

pub returns-clause-exact : goal.returns-clause-exact
returns-clause-exact c = has_same _ _ c.in_ok-names.ensures

pub returns-clause-over : goal.returns-clause-over
returns-clause-over c = over c.args.self.now.versions.now.served
