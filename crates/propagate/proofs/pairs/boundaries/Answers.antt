use Rattle.std.proofs.Common.{ap, ◌∙◌, ◌++◌}
use Rattle.std.specs.Prelude.{◌||◌}
use Rattle.core_model.specs.Names.{Name, has}
use Rattle.core_model.specs.Rounds.{touched}
use Rattle.core_model.proofs.Naming.{has_append}
use Rattle.propagate.specs.Pairs.{accepted_by}
use Rattle.propagate.proofs.pairs.boundaries.Goals as goal

pub returns : goal.returns
returns c =
    let replaced = c.args.replaced.now in
    let acceptors = c.in_ok-acceptors.acceptors.items in
    λ (m : Name). ap (λ l. has l m) (c.in_ok-names.ensures ∙ ap (λ l. replaced ++ l) c.deref-2.ensures.value) ∙ has_append replaced acceptors m
    ∙ ap (λ b. has replaced m || b) (c.in_ok-acceptors.ensures m ∙ ap (λ l. touched (accepted_by c.args.view.now) l m) (c.deref.ensures.value ∙ c.in_ok-vias.ensures))
