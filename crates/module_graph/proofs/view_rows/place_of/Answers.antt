use Rattle.std.proofs.Common.{ap, sym, ◌∙◌}
use Rattle.std.specs.Prelude.{position}
use Rattle.core_model.specs.Names.{same_name}
use Rattle.module_graph.proofs.Marking.{names_view}
use Rattle.module_graph.proofs.view_rows.place_of.Goals as goal

pub returns : goal.returns
returns c = c.get_index_of.ensures.index ∙ ap (position (same_name c.args.name.now)) (sym (names_view c.args.rows.now.entries))
