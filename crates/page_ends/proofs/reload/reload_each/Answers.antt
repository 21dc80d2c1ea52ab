use Rattle.std.proofs.Common.{◌∙◌, get_or}
use Rattle.std.proofs.lemmas.Option.{slice_get-get_or}
use Rattle.client_model.specs.Applying.{reload_instance}
use Rattle.page_ends.proofs.Each.{next_begins, all_begun, within_page}
use Rattle.page_ends.proofs.reload.reload_each.Goals as goal

pub loop-place-preserved : goal.loop-place-preserved
loop-place-preserved g c =
    let places = c.args.places.now in
    let index = c.loop-place.place-index in
    record {
      long = c.reload_instance.ensures.count ∙ c.loop-place.invariant.long;
      words = λ w. c.reload_instance.ensures.words (c.loop-place.invariant.words w);
      begins = λ lines. next_begins reload_instance (get_or places index 0) c.loop-place.page c.reload_instance.new.page lines lines
          (within_page c.args.page.now c.loop-place.page places index c.requires c.loop-place-test.true c.loop-place.invariant.long)
          (λ i k n. c.reload_instance.ensures.follows lines i k) places places index c.args.page.now lines
          (slice_get-get_or places index 0 c.loop-place-test.true) (c.loop-place.invariant.begins lines);
    }

pub returns-clause-each : goal.returns-clause-each
returns-clause-each g c = λ lines. all_begun reload_instance c.args.places.now c.args.places.now c.loop-place.place-index c.args.page.now c.loop-place.page lines lines c.loop-place-test.false (c.loop-place.invariant.begins lines)
