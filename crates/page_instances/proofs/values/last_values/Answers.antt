use Rattle.std.proofs.Common.{rules, ◌≡◌, ◌<◌, length, refl}
use Rattle.page_instances.proofs.Assigning.{tells_more}
use Rattle.page_instances.proofs.values.last_values.Goals as goal

pub loop-change-preserved : goal.loop-change-preserved
loop-change-preserved c =
    let lt : c.loop-change.change-index < length c.args.changes.now = search rules in
    let named : c.in_ok-clone.field-0 ≡ c.change-item.result.0 = search rules in
    tells_more c.args.changes.now c.loop-change.change-index c.change-item.result c.in_ok-clone.field-0 _ c.loop-change.index c.insert.new.self lt
    c.change-item.is named refl c.loop-change.invariant c.in_ok-insert.ensures.updates
