use Rattle.client_plan.proofs.Unlinking.{link_is}
use Rattle.client_plan.proofs.linking.first_unlinked.Goals as goal

pub returns : goal.returns
returns c = λ r p v s t e. link_is r p c.args.plan.now c.args.trees.now.entries s t c.args.view.now c.args.names.now _ v e c.in_ok-found.ensures
