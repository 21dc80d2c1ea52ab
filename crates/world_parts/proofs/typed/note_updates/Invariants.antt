use Rattle.std.proofs.Common.{◌≡◌, true, take}
use Rattle.std.specs.List.{list_all}
use Rattle.message_json.specs.ServerReading.{is_named}
use Rattle.world_parts.proofs.typed.note_updates.Given as goal

abbrev pub invariant-loop-update : goal.invariant-loop-update
invariant-loop-update l = list_all is_named (take l.update-index l.updates) ≡ true
