use Rattle.std.proofs.Common.{ap, ◌∙◌}
use Rattle.core_model.specs.View.{View, imports}
use Rattle.module_graph.proofs.view.View.imports.Goals as goal

pub returns : goal.returns
returns c = c.has.ensures ∙ c.self.invariant.imports.is c.args.import.now c.args.name.now ∙ ap (λ (v : View). imports v c.args.name.now c.args.import.now) c.self.view_is
