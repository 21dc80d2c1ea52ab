use Rattle.std.proofs.Common.{[], ◌∷◌, ◌++◌, ap, refl, ◌∙◌}
use Rattle.client_plan.proofs.Readied.{lone_ready}
use Rattle.client_plan.proofs.planning.lone.Goals as goal

pub returns : goal.returns
returns c = λ r p v same trees i.
    lone_ready r p c.args.name.now _ i refl (c.in_ok-push.ensures.items ∙ ap (λ ns. ns ++ c.in_ok-copy_name.field-0 ∷ []) c.new-names.ensures.items ∙ ap (λ n. n ∷ []) c.in_ok-copy_name.ensures)
    (λ n. c.in_ok-link.ensures r p v same trees (c.deref.ensures.value ∙ n))
