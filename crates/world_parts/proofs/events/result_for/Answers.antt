use Rattle.std.proofs.Common.{ap, ◌∙◌}
use Rattle.module_semantics.specs.Analysis.{transformed}
use Rattle.module_semantics.specs.ModuleText.{parsing}
use Rattle.core_model.specs.Core.{change}
use Rattle.core_model.specs.Sources.{result}
use Rattle.transforms.specs.Transform.{Transform}
use Rattle.world_parts.proofs.events.result_for.Goals as goal

pub returns : goal.returns
returns c =
    let v = c.args.version in
    let n = c.args.name.now in
    ap (λ (x : Transform). change (result x.name x.text x.outcome v)) c.in_ok-transformed.ensures
    ∙ ap (λ m. change (result m c.in_ok-copy.copy.items (transformed parsing m c.in_ok-copy.copy.items) v)) c.in_ok-copy_name.ensures
    ∙ ap (λ t. change (result n t (transformed parsing n t) v)) c.in_ok-copy.ensures.items
