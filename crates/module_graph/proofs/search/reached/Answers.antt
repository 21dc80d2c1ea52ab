use Rattle.std.proofs.Common.{◌<◌, ◌↔◌, List, [], length, Contains, get_or, ap, sym, ◌∙◌, arith}
use Rattle.std.proofs.Math.Path.{subst}
use Rattle.std.proofs.lemmas.List.{get_or_default}
use Rattle.core_model.specs.Names.{Name}
use Rattle.core_model.specs.Paths.{Reaches}
use Rattle.core_model.specs.Roots.{are_distinct}
use Rattle.module_graph.specs.Paths.{Adds}
use Rattle.module_graph.proofs.Searches.{searched_first, searched_more, searched_all, searched_room}
use Rattle.module_graph.proofs.search.reached.Goals as goal

pub loop-at-init : goal.loop-at-init
loop-at-init g c = searched_first _ _ _ _ (subst (λ k. Adds k c.args.starts.now c.add_all.new.self) c.new-known.ensures c.in_ok-add_all.ensures) (ap are_distinct (sym c.known.view_is) ∙ c.known.invariant.distinct)

pub loop-at-preserved : goal.loop-at-preserved
loop-at-preserved g c =
    let known = c.loop-at.known in
    let within : c.loop-at.at < length known = omega (arith, c.loop-at-test.true, ap length c.names.ensures.names) in
    searched_more _ _ _ known _ _ _ _ c.loop-at.invariant within
    (c.index-names-at.is ∙ ap (λ l. get_or l c.loop-at.at c.index-names-at.result) c.names-in-loop-at.ensures.names ∙ get_or_default known c.loop-at.at c.index-names-at.result [] within)
    c.in_ok-next.ensures.exact c.in_ok-next.ensures.over
    (subst (λ l. Adds known l c.add_all-in-loop-at.new.self) c.deref.ensures.value c.in_ok-add_all-2.ensures)
    (ap are_distinct (sym c.known-in-loop-at-2.view_is) ∙ c.known-in-loop-at-2.invariant.distinct)

pub loop-at-smaller : goal.loop-at-smaller
loop-at-smaller g c = let room = searched_room _ _ _ _ _ c.loop-at.invariant in omega (arith, room, c.loop-at-test.true, ap length c.names.ensures.names)

pub returns-clause-exact : goal.returns-clause-exact
returns-clause-exact g c = subst (λ (l : List Name). (m : Name) → Contains l m ↔ Reaches (g.G.Edges.edge c.args.graph.now) c.args.starts.now m) (sym c.into_names.ensures.names)
    (searched_all _ _ _ _ c.loop-at.at c.loop-at.invariant (omega (arith, c.loop-at-test.false, ap length c.names.ensures.names)))

pub returns-clause-distinct : goal.returns-clause-distinct
returns-clause-distinct g c = ap are_distinct c.into_names.ensures.names ∙ c.into_names.ensures.distinct
