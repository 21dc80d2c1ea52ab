use Rattle.std.proofs.Common.{◌<◌, length, arith}
use Rattle.live_folder.specs.Pages.{ShownAs}
use Rattle.live_folder.proofs.Upto.{all_done, none_yet, one_further}
use Rattle.live_folder.proofs.made_page.make_removed.Goals as goal

pub loop-change-init : goal.loop-change-init
loop-change-init c = none_yet (ShownAs c.args.page.now c.args.text.now) c.args.changes.now

pub loop-change-preserved : goal.loop-change-preserved
loop-change-preserved c =
    let within : c.loop-change.change-index < length c.loop-change.changes = omega (arith, c.loop-change-test.true, c.loop-change.auto.changes) in
    one_further (ShownAs c.args.page.now c.args.text.now) c.loop-change.change-index c.args.changes.now c.loop-change.changes c.show.new.change c.change-item.result
    c.loop-change.invariant within c.in_ok-show.ensures

pub returns : goal.returns
returns c =
    all_done (ShownAs c.args.page.now c.args.text.now) c.loop-change.change-index c.args.changes.now c.loop-change.changes
    c.loop-change.invariant (omega (arith, c.loop-change-test.false, c.loop-change.auto.changes))
