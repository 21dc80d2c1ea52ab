use Rattle.std.proofs.Common.{ap, ◌∙◌, ◌++◌}
use Rattle.propagate.proofs.Onward.{next_more}
use Rattle.propagate.proofs.replaced.next_of_all.Goals as goal

pub loop-name-preserved : goal.loop-name-preserved
loop-name-preserved g c = next_more (g.G.Edges.edge c.args.graph.now) c.args.names.now c.loop-name.name-index c.name-item.result c.loop-name.all.items c.in_ok-next.next.items _
    c.loop-name-test.true c.name-item.is c.loop-name.invariant c.in_ok-next.ensures.exact (c.in_ok-add_all.ensures ∙ ap (λ l. c.loop-name.all.items ++ l) c.deref.ensures.value)
