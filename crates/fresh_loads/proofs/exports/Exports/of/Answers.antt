use Rattle.fresh_loads.proofs.Linking.{one_module_more}
use Rattle.fresh_loads.proofs.exports.Exports.of.Goals as goal

pub loop-name-preserved : goal.loop-name-preserved
loop-name-preserved c = one_module_more c.args.versions.now.served c.args.names.now c.loop-name.name-index c.name-item.result c.loop-name-test.true _ _ c.name-item.is (c.in_ok-add.ensures _ c.loop-name.invariant)
