use Rattle.std.proofs.Common.{◌++◌, take, ap, ◌∙◌}
use Rattle.module_graph.specs.Paths.{with_new}
use Rattle.propagate.specs.Trails.{unmet, with_from}
use Rattle.propagate.proofs.Trailing.{met_on, from_on}
use Rattle.propagate.proofs.trails.meet.Goals as goal

pub loop-name-preserved : goal.loop-name-preserved
loop-name-preserved c =
    let old = c.args.trails.now in
    let names = c.args.names.now in
    let i = c.loop-name.name-index in
    let x = c.name-item.result in
    let cur = c.loop-name.trails in
    let inv = c.loop-name.invariant in (
      c.in_ok-meet_one.ensures.met ∙ ap (λ l. with_new l x) inv.0 ∙ met_on old.met names i x c.requires.rising c.loop-name-test.true c.name-item.is,
      c.in_ok-meet_one.ensures.from ∙ ap (λ l. with_from l cur.from.items x c.args.from) inv.0 ∙ ap (λ l. with_from (old.met ++ unmet old.met (take i names)) l x c.args.from) inv.1 ∙ from_on old.met names i x c.requires.rising c.loop-name-test.true c.name-item.is old.from.items c.args.from,
    )
