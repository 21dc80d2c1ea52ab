use Rattle.std.proofs.Common.{◌≡◌, take}
use Rattle.module_graph.specs.Rows.{mark_names}
use Rattle.module_graph.proofs.view_rows.mark_all.Given as goal

abbrev pub invariant-loop-name : goal.invariant-loop-name
invariant-loop-name l = l.rows.entries ≡ mark_names (take l.name-index l.names) l.fn.rows.entries
