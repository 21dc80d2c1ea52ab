use Rattle.module_graph.proofs.Turning.{enters_some, on_err}
use Rattle.module_graph.proofs.reverse_index.ReverseIndex.enter_each.Goals as goal

pub returns-in_err-put_under-clause-err : goal.returns-in_err-put_under-clause-err
returns-in_err-put_under-clause-err c = on_err _ _ (enters_some c.args.lister.now c.args.names.now c.loop-name.name-index c.args.self.now.sets.entries c.loop-name.self.sets.entries c.put_under.new.sets.entries c.loop-name.invariant c.in_err-put_under.ensures.err)
