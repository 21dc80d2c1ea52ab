use Rattle.std.proofs.Common.{◌≡◌, ◌++◌}
use Rattle.page_showing.specs.Showing.{lines_upto}
use Rattle.page_showing.proofs.showing.tell_fates.Given as goal

abbrev pub invariant-loop-place : goal.invariant-loop-place
invariant-loop-place g l = l.lines.items ≡ l.fn.lines.items ++ lines_upto l.page.instances.items l.place
