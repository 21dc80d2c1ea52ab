use Rattle.std.proofs.Common.{ap, sym, ◌∙◌}
use Rattle.std.specs.Prelude.{option_map}
use Rattle.module_graph.specs.declared.view_rows.Row.{Row}
use Rattle.module_graph.proofs.Marking.{view_found}
use Rattle.module_graph.proofs.view_rows.find.Goals as goal

pub returns-in-Some : goal.returns-in-Some
returns-in-Some c = ap (option_map (λ (row : Row). row.entry)) c.in-Some.ensures.value ∙ sym (view_found c.args.rows.now.entries c.args.name.now)

pub returns-in-None : goal.returns-in-None
returns-in-None c = ap (option_map (λ (row : Row). row.entry)) c.in-None.ensures.value ∙ sym (view_found c.args.rows.now.entries c.args.name.now)
