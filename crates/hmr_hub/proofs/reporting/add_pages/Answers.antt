use Rattle.std.proofs.Common.{◌+◌, None, subst}
use Rattle.hmr_hub.specs.Pages.{IsPage}
use Rattle.hmr_hub.proofs.Lines.{here, one_more_client}
use Rattle.hmr_hub.proofs.reporting.add_pages.Goals as goal

pub loop-place-preserved : goal.loop-place-preserved
loop-place-preserved c = λ past stands pages.
    let place = c.loop-place.place in
    let roots = c.args.core.now.roots in
    let page = c.index-pages-place.result in
    let is = here c.args.pages.now place page None c.loop-place-test.true c.index-pages-place.is in
    one_more_client roots past place c.args.lines.now.items c.loop-place.lines.items c.add_last_page.new.lines.items (c.loop-place.invariant past stands pages)
    (c.in_ok-add_last_page.ensures past stands (subst (λ kept. IsPage roots past (place + 1) kept) is (pages.each place c.loop-place-test.true)))
