use Rattle.std.proofs.Common.{◌++◌, ap, ◌∙◌}
use Rattle.core_model.specs.Names.{sorted}
use Rattle.fresh_loads.proofs.Linking.{edges_are}
use Rattle.fresh_loads.proofs.unlinked.add_imports.Goals as goal

pub returns : goal.returns
returns c = λ served h. c.in_ok-add_edges.ensures ∙ ap (λ l. c.args.found.now.items ++ l) (edges_are c.args.links.now served c.args.exports.now c.in_ok-linked.linked c.args.name.now c.in_ok-linked.ensures _ c.args.imports.now (c.deref.ensures.value ∙ c.in_ok-dependencies.ensures ∙ ap sorted c.in_ok-imports.ensures) h)
