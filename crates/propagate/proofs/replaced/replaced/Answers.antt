use Rattle.std.proofs.Common.{◌≡◌, ◌↔◌, ◌++◌, ap, ◌∙◌, Contains}
use Rattle.std.proofs.Math.Path.{subst}
use Rattle.core_model.specs.Names.{Name, has}
use Rattle.core_model.specs.Paths.{Reaches}
use Rattle.core_model.specs.Rounds.{touched}
use Rattle.core_model.specs.Spread.{passes}
use Rattle.propagate.proofs.Onward.{replaced_is}
use Rattle.propagate.proofs.replaced.replaced.Goals as goal

pub returns : goal.returns
returns c =
    let view = c.args.change.now.view.now in
    let changed = c.args.change.now.changed.now in
    let forced = c.args.change.now.forced.now in
    let firsts = c.in_ok-firsts.firsts.items in
    let passed = c.in_ok-passed.passed.items in
    replaced_is view changed forced firsts passed
    (subst (λ s. (m : Name) → has firsts m ≡ touched (passes view forced) s m) (c.deref.ensures.value ∙ c.in_ok-starts.ensures)
    (subst (λ v. (m : Name) → has firsts m ≡ touched (passes v forced) c.deref.result.now m) c.in_ok-graph.ensures.view
    (subst (λ f. (m : Name) → has firsts m ≡ touched (passes c.in_ok-graph.graph.view.now f) c.deref.result.now m) c.in_ok-graph.ensures.forced c.in_ok-firsts.ensures)))
    (subst (λ s. (m : Name) → Contains passed m ↔ Reaches (passes view forced) s m) c.deref-2.ensures.value
    (subst (λ v. (m : Name) → Contains passed m ↔ Reaches (passes v forced) c.deref-2.result.now m) c.in_ok-graph.ensures.view
    (subst (λ f. (m : Name) → Contains passed m ↔ Reaches (passes c.in_ok-graph.graph.view.now f) c.deref-2.result.now m) c.in_ok-graph.ensures.forced c.in_ok-passed.ensures.exact)))
    c.in_ok-names.names.items c.in_ok-replaced.replaced.items (c.in_ok-names.ensures ∙ ap (λ l. changed ++ l) c.deref-3.ensures.value) c.in_ok-replaced.ensures
