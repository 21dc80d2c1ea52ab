use Rattle.std.proofs.Common.{true, ap, sym, ◌∙◌}
use Rattle.module_graph.specs.Rows.{renew}
use Rattle.module_graph.proofs.Renewing.{renew_absent, renew_found}
use Rattle.module_graph.proofs.view_rows.renew.Goals as goal

pub returns-in-Some : goal.returns-in-Some
returns-in-Some c = (c.get_mut.follows.holds (renew true c.args.entry c.in-Some.row.now)).0 ∙ renew_found c.args.name.now c.args.entry c.args.rows.now.entries c.in-Some.row.now c.in-Some.ensures.unique c.in-Some.ensures.value

-- the name isn't there
pub returns-in_default : goal.returns-in_default
returns-in_default c = ap (λ m. m.entries) c.get_mut.follows.holds-at-none ∙ sym (renew_absent c.args.name.now c.args.entry c.args.rows.now.entries c.in_default.ensures.value)
