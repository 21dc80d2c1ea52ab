use Rattle.std.proofs.Common.{◌≡◌, ◌+◌, length, refl, rules}
use Rattle.std.proofs.lemmas.Option.{slice_get_read}
use Rattle.page_showing.proofs.Shown.{one_fate}
use Rattle.page_showing.proofs.showing.tell_fates.Goals as goal

pub loop-place-preserved : goal.loop-place-preserved
loop-place-preserved g c =
    let cs = c.args.page.now.instances.items in
    let number : c.in-Ok.number ≡ c.loop-place.place + 1 = search rules in
    one_fate cs c.loop-place.place c.in-Ok.number c.index.result.now c.args.lines.now.items c.loop-place.lines.items c.tell_fate.new.lines.items
    (slice_get_read cs (length cs) c.loop-place.place c.index.result.now refl (search rules) c.index.ensures) number c.loop-place.invariant c.in_ok-tell_fate-in-Ok.ensures
