use Rattle.std.proofs.Common.{rules, sym, ◌∙◌}
use Rattle.module_graph.proofs.Marking.{names_view}
use Rattle.module_graph.proofs.view_rows.names_in.Goals as goal

pub returns : goal.returns
returns c = search rules ∙ sym (names_view c.args.rows.now.entries)
