use Rattle.std.proofs.Common.{◌≡◌, ◌++◌, drop, map}
use Rattle.page_instances.specs.Showing.{mark_line}
use Rattle.page_instances.proofs.showing.tell_marks.Given as goal

abbrev pub invariant-loop-mark : goal.invariant-loop-mark
invariant-loop-mark l = l.lines.items ++ map mark_line (drop l.mark-index l.marks) ≡ l.fn.lines.items ++ map mark_line l.marks
