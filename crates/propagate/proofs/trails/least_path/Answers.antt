use Rattle.std.proofs.Common.{◌≡◌, ◌<◌, ◌++◌, [], length, map, get_or, sym, ap, ◌∙◌, arith}
use Rattle.std.specs.Prelude.{None}
use Rattle.std.specs.Cmp.Lexicographic.{slice_cmp}
use Rattle.std.specs.List.Sorted.{IsStrictlySortedBy}
use Rattle.std.specs.Ordering.{nat_cmp}
use Rattle.std.proofs.Math.Path.{subst}
use Rattle.std.proofs.lemmas.List.{get_or_default}
use Rattle.core_model.specs.LeastPath.{IsLeastPath}
use Rattle.core_model.specs.Names.{Name, sorted}
use Rattle.module_graph.proofs.Sorting.{sorted_rising}
use Rattle.propagate.specs.Trails.{AreTrails, unmet}
use Rattle.propagate.proofs.Ranks.{ranked_found, ranked_none}
use Rattle.propagate.proofs.Trailing.{searching_first, searching_more, searching_room}
use Rattle.propagate.proofs.trails.least_path.Goals as goal

pub meet-requires : goal.meet-requires
meet-requires g c = record { rising = subst (IsStrictlySortedBy (slice_cmp nat_cmp)) (sym (c.deref.ensures.value ∙ c.in_ok-first.ensures)) (sorted_rising c.in_ok-copy_of.field-0.items) }

pub loop-at-init : goal.loop-at-init
loop-at-init g c =
    let first = c.deref.result.now in
    searching_first _ c.args.starts.now _ _ first _ _
    (c.deref.ensures.value ∙ c.in_ok-first.ensures ∙ ap sorted c.in_ok-copy_of.ensures)
    (c.in_ok-meet.ensures.met ∙ ap (λ l. l ++ unmet l first) c.new.ensures)
    (c.in_ok-meet.ensures.from ∙ ap (λ l. l ++ map (λ (n : Name). None) (unmet c.new.result first)) c.new-2.ensures.items ∙ ap (λ l. map (λ (n : Name). None) (unmet l first)) c.new.ensures)

pub returns-then-is_bad-clause-some : goal.returns-then-is_bad-clause-some
returns-then-is_bad-clause-some g c =
    let edge = g.G.Edges.edge c.args.graph.now in
    let bad = g.B.Ends.bad c.args.ends.now in
    let starts = c.args.starts.now in
    let met = c.loop-at.trails.met in
    let at = c.loop-at.at in
    let s = c.loop-at.invariant in
    let there : at < length met = omega (arith, c.loop-at-test.true, ap length c.names.ensures.names) in
    let is : c.index-names-at.result ≡ get_or met at [] = c.index-names-at.is ∙ ap (λ l. get_or l at c.index-names-at.result) c.names-in-loop-at.ensures.names ∙ get_or_default met at c.index-names-at.result [] there in
    let trails = subst (λ l. AreTrails l c.deref-then-is_bad.result.now s.paths) (sym c.names-then-is_bad.ensures.names) (subst (λ l. AreTrails met l s.paths) (sym c.deref-then-is_bad.ensures.value) s.trails) in
    subst (IsLeastPath edge starts bad) (sym (c.in_ok-path.ensures s.paths trails))
    (ranked_found edge starts met s.paths bad at s.ranked s.fine there (ap bad (sym is) ∙ sym c.is_bad.ensures ∙ c.if-is_bad.true))

pub meet-requires-in-loop-at : goal.meet-requires-in-loop-at
meet-requires-in-loop-at g c = record { rising = subst (IsStrictlySortedBy (slice_cmp nat_cmp)) (sym (c.deref-in-loop-at.ensures.value ∙ c.in_ok-next-2.ensures)) (sorted_rising c.in_ok-next.field-0.items) }

pub loop-at-smaller : goal.loop-at-smaller
loop-at-smaller g c = let room = searching_room _ _ _ _ _ _ _ c.loop-at.invariant c.names.ensures.distinct in omega (arith, room, c.loop-at-test.true, ap length c.names.ensures.names)

pub loop-at-preserved : goal.loop-at-preserved
loop-at-preserved g c =
    let bad = g.B.Ends.bad c.args.ends.now in
    let met = c.loop-at.trails.met in
    let at = c.loop-at.at in
    let there : at < length met = omega (arith, c.loop-at-test.true, ap length c.names.ensures.names) in
    let is : c.index-names-at.result ≡ get_or met at [] = c.index-names-at.is ∙ ap (λ l. get_or l at c.index-names-at.result) c.names-in-loop-at.ensures.names ∙ get_or_default met at c.index-names-at.result [] there in
    let too : c.index-names-at-in-loop-at.result ≡ get_or met at [] = c.index-names-at-in-loop-at.is ∙ ap (λ l. get_or l at c.index-names-at-in-loop-at.result) c.names-in-loop-at-2.ensures.names ∙ get_or_default met at c.index-names-at-in-loop-at.result [] there in
    searching_more _ _ _ bad met c.loop-at.trails.from.items at c.index-names-at-in-loop-at.result c.in_ok-next.field-0.items c.deref-in-loop-at.result.now c.loop-at.invariant there too
    (ap bad (too ∙ sym is) ∙ sym c.is_bad.ensures ∙ c.if-is_bad.false)
    c.in_ok-next.ensures.exact c.in_ok-next.ensures.over (c.deref-in-loop-at.ensures.value ∙ c.in_ok-next-2.ensures)
    _ _ c.in_ok-meet-2.ensures.met c.in_ok-meet-2.ensures.from

pub returns-clause-none : goal.returns-clause-none
returns-clause-none g c =
    let s = c.loop-at.invariant in
    ranked_none _ c.args.starts.now c.loop-at.trails.met s.paths (g.B.Ends.bad c.args.ends.now) c.loop-at.at s.ranked s.fine (omega (arith, c.loop-at-test.false, ap length c.names.ensures.names))
