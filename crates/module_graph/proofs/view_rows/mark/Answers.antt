use Rattle.std.proofs.Common.{true, ap, sym, ◌∙◌}
use Rattle.module_graph.specs.Rows.{mark}
use Rattle.module_graph.proofs.Marking.{mark_absent, mark_found}
use Rattle.module_graph.proofs.view_rows.mark.Goals as goal

pub returns-in-Some : goal.returns-in-Some
returns-in-Some c = (c.get_mut.follows.holds (mark true c.in-Some.row.now)).0 ∙ mark_found c.args.name.now c.args.rows.now.entries c.in-Some.row.now c.in-Some.ensures.unique c.in-Some.ensures.value

-- the name isn't there
pub returns-in_default : goal.returns-in_default
returns-in_default c = ap (λ m. m.entries) c.get_mut.follows.holds-at-none ∙ sym (mark_absent c.args.name.now c.args.rows.now.entries c.in_default.ensures.value)
