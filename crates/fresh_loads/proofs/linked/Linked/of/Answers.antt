use Rattle.fresh_loads.proofs.Linking.{link_more}
use Rattle.fresh_loads.proofs.linked.Linked.of.Goals as goal

pub loop-link-preserved : goal.loop-link-preserved
loop-link-preserved c = λ m. link_more c.args.links.now c.loop-link.link-index c.link-item.result m c.loop-link-test.true _ c.link-item.is _ _ (c.in_ok-add.ensures m) (c.loop-link.invariant m)
