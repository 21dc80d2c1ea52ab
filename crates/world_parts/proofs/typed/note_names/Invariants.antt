use Rattle.std.proofs.Common.{take}
use Rattle.message_json.specs.ServerReading.{AreNames}
use Rattle.world_parts.proofs.typed.note_names.Given as goal

abbrev pub invariant-loop-name : goal.invariant-loop-name
invariant-loop-name l = AreNames (take l.name-index l.names)
