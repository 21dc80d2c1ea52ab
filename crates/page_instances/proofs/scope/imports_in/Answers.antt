use Rattle.std.proofs.Common.{◌∙◌, ap}
use Rattle.page_instances.specs.Scopes.{bound_slots}
use Rattle.page_instances.proofs.scope.imports_in.Goals as goal

pub returns : goal.returns
returns g c = c.in_ok-env.ensures
    ∙ ap (λ links. bound_slots c.args.instances.now links c.as_slice-bindings.result.now) c.as_slice-links.ensures
    ∙ ap (λ bounds. bound_slots c.args.instances.now c.args.instance.now.links bounds) c.as_slice-bindings.ensures
