use Rattle.core_model.proofs.Views.{accepter_named}
use Rattle.propagate.proofs.pairs.AcceptorsEdges.next.Goals as goal

pub returns-clause-over : goal.returns-clause-over
returns-clause-over c n m h = accepter_named c.args.self.now.view.now m n h
