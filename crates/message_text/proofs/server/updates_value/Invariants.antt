use Rattle.std.proofs.Common.{◌≡◌, map, take}
use Rattle.message_text.specs.ServerText.{js_update}
use Rattle.serde_json.specs.View.{view}
use Rattle.message_text.proofs.server.updates_value.Given as goal

abbrev pub invariant-loop-update : goal.invariant-loop-update
invariant-loop-update l = map view l.items.items ≡ map js_update (take l.update-index l.updates)
