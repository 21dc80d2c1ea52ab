use Rattle.std.proofs.Common.{ap, ◌∙◌}
use Rattle.core_model.specs.View.{View, accepts}
use Rattle.module_graph.proofs.view.View.accepts.Goals as goal

pub returns : goal.returns
returns c = c.has.ensures ∙ c.self.invariant.accepted.is c.args.dependency.now c.args.name.now ∙ ap (λ (v : View). accepts v c.args.name.now c.args.dependency.now) c.self.view_is
