use Rattle.std.proofs.Common.{◌≡◌, drop}
use Rattle.serde_json.specs.View.{items_view}
use Rattle.message_json.specs.Reading.{items_in, row_in}
use Rattle.message_json.proofs.Loops.{after}
use Rattle.message_json.proofs.list.rows_of.Given as goal

abbrev pub invariant-loop-item : goal.invariant-loop-item
invariant-loop-item l = after l.rows.items (items_in row_in (items_view (drop l.item-index l.items))) ≡ items_in row_in (items_view l.items)
