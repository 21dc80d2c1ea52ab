use Rattle.client_plan.proofs.Staged.{at_inserted}
use Rattle.client_plan.proofs.fetching.keep_tree.Goals as goal

pub returns : goal.returns
returns c = λ n. at_inserted c.args.name.now c.in_ok-copy_name.field-0 c.args.tree c.args.trees.now c.insert.new.self c.in_ok-copy_name.ensures c.in_ok-insert.ensures.updates n
