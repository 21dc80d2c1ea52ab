use Rattle.std.proofs.Common.{take}
use Rattle.page_marks.proofs.Renewing.{AreEntered}
use Rattle.page_marks.proofs.marks.enter_all.Given as goal

abbrev pub invariant-loop-name : goal.invariant-loop-name
invariant-loop-name l = AreEntered (take l.name-index l.names) l.fn.queue l.queue
