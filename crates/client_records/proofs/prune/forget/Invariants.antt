use Rattle.std.proofs.Common.{take}
use Rattle.client_records.specs.Forgotten.{Forgotten}
use Rattle.client_records.proofs.prune.forget.Given as goal

abbrev pub invariant-loop-name : goal.invariant-loop-name
invariant-loop-name l = Forgotten (take l.name-index l.names) l.fn.queue l.queue
