use Rattle.std.proofs.Common.{◌≡◌, drop}
use Rattle.client_model.specs.Language.{slot_at}
use Rattle.page_instances.proofs.values.slot_at.Given as goal

abbrev pub invariant-loop-row : goal.invariant-loop-row
invariant-loop-row l = slot_at (drop l.row-index l.slots) l.name ≡ slot_at l.slots l.name
