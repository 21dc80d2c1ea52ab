use Rattle.std.proofs.Common.{◌≡◌, ◌++◌, drop}
use Rattle.page_showing.specs.Showing.{values_kept}
use Rattle.page_showing.proofs.showing.tell_all_live.Given as goal

abbrev pub invariant-loop-name : goal.invariant-loop-name
invariant-loop-name g l = l.lines.items ++ values_kept l.page (drop l.name-index l.names) ≡ l.fn.lines.items ++ values_kept l.page l.names
