use Rattle.fresh_loads.proofs.Linking.{exports_there, item_has}
use Rattle.fresh_loads.proofs.unlinked.unlinked_names.Goals as goal

pub add_module-requires : goal.add_module-requires
add_module-requires c = exports_there c.args.versions.now.served c.args.names.now c.in_ok-exports.exports _ c.requires c.in_ok-exports.ensures (item_has c.args.names.now c.loop-name.name-index c.name-item.result _ c.loop-name-test.true c.name-item.is)
