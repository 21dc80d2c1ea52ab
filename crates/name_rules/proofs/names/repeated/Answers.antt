use Rattle.std.proofs.Common.{ap, ◌∙◌}
use Rattle.name_rules.specs.Firsts.{earlier}
use Rattle.name_rules.specs.Told.{told}
use Rattle.name_rules.proofs.Repeats.{next_repeat}
use Rattle.name_rules.proofs.names.repeated.Goals as goal

pub loop-place-preserved : goal.loop-place-preserved
loop-place-preserved c =
    next_repeat c.args.names.now c.as_slice-all.result.now c.loop-place.place c.index-all-place.result c.has_before-again.result (told c.loop-place.found) (told c.earlier-found.result) _
    c.as_slice-all.ensures c.loop-place-test.true c.index-all-place.is c.has_before-again.ensures (c.earlier-found.ensures ∙ ap (earlier (told c.loop-place.found)) c.first_if.ensures) c.loop-place.invariant
