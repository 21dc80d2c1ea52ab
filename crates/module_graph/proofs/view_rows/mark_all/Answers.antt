use Rattle.std.proofs.Common.{ap, sym, ◌∙◌, take}
use Rattle.module_graph.specs.Rows.{Rows, mark_name, mark_names}
use Rattle.module_graph.proofs.Marking.{mark_more, mark_no_names}
use Rattle.module_graph.proofs.view_rows.mark_all.Goals as goal

pub loop-name-init : goal.loop-name-init
loop-name-init c = sym (mark_no_names c.args.rows.now.entries)

pub loop-name-preserved : goal.loop-name-preserved
loop-name-preserved c = c.mark.ensures
    ∙ ap (λ (r : Rows). mark_name c.name-item.result r) c.loop-name.invariant
    ∙ ap (λ x. mark_name x (mark_names (take c.loop-name.name-index c.args.names.now) c.args.rows.now.entries)) c.name-item.is
    ∙ mark_more c.args.names.now c.loop-name.name-index c.name-item.result c.args.rows.now.entries c.loop-name-test.true
