use Rattle.std.proofs.Common.{take}
use Rattle.page_marks.specs.Marks.{AreRenewed}
use Rattle.page_marks.proofs.marks.renew_all.Given as goal

abbrev pub invariant-loop-name : goal.invariant-loop-name
invariant-loop-name l = AreRenewed (take l.name-index l.names) l.page l.sources l.fn.queue l.queue
