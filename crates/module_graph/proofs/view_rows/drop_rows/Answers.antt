use Rattle.std.proofs.Common.{ap, ◌∙◌}
use Rattle.std.specs.Prelude.{filter, not}
use Rattle.module_graph.specs.Rows.{Rows, are_staying, view_of}
use Rattle.module_graph.proofs.Marking.{left, left_staying}
use Rattle.module_graph.proofs.view_rows.drop_rows.Goals as goal

pub returns-clause-view : goal.returns-clause-view
returns-clause-view c = ap view_of c.drop_marked.ensures ∙ ap (λ (r : Rows). view_of (filter (λ row. not row.1.leaving) r)) c.mark_all.ensures ∙ left c.args.names.now c.args.rows.now.entries c.requires

pub returns-clause-staying : goal.returns-clause-staying
returns-clause-staying c = ap are_staying c.drop_marked.ensures ∙ left_staying c.mark_all.new.rows.entries
