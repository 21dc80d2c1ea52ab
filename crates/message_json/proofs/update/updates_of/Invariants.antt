use Rattle.std.proofs.Common.{◌≡◌, drop}
use Rattle.serde_json.specs.View.{items_view}
use Rattle.message_json.specs.Reading.{items_in}
use Rattle.message_json.specs.ServerReading.{js_update_in}
use Rattle.message_json.proofs.Loops.{after}
use Rattle.message_json.proofs.update.updates_of.Given as goal

abbrev pub invariant-loop-item : goal.invariant-loop-item
invariant-loop-item l = after l.updates.items (items_in js_update_in (items_view (drop l.item-index l.items))) ≡ items_in js_update_in (items_view l.items)
