use Rattle.std.proofs.Common.{◌++◌, ap, ◌∙◌}
use Rattle.fresh_loads.proofs.Linking.{edge_found}
use Rattle.fresh_loads.proofs.unlinked.add_edge.Goals as goal

pub returns : goal.returns
returns c = c.in_ok-add_names.ensures ∙ ap (λ l. c.args.found.now.items ++ l) (edge_found c.args.exports.now c.args.linked.now c.args.name.now c.args.dependency.now c.in-Some.set.now _ _ _ c.in-Some.ensures c.get-taken.ensures c.in_ok-names.ensures c.deref.ensures.value)
