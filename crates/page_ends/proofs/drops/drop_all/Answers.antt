use Rattle.std.proofs.Common.{◌∙◌, get_or, sym}
use Rattle.std.proofs.Math.Path.{subst}
use Rattle.std.proofs.lemmas.Option.{slice_get-get_or}
use Rattle.client_model.specs.Instance.{is_held}
use Rattle.client_model.specs.Running.{drop_each}
use Rattle.page_state.specs.Standing.{Follows}
use Rattle.page_ends.proofs.Each.{next_begins, all_begun, within_page}
use Rattle.page_ends.proofs.drops.drop_all.Goals as goal

pub loop-place-preserved : goal.loop-place-preserved
loop-place-preserved g c =
    let places = c.args.places.now in
    let index = c.loop-place.place-index in
    record {
      long = c.drop_held.ensures.count ∙ c.loop-place.invariant.long;
      words = λ w. c.drop_held.ensures.words (c.loop-place.invariant.words w);
      begins = λ lines. next_begins (λ i r. drop_each is_held i.number r) (get_or places index 0) c.loop-place.page c.drop_held.new.page lines lines
          (within_page c.args.page.now c.loop-place.page places index c.requires c.loop-place-test.true c.loop-place.invariant.long)
          (λ i k n. subst (λ m. Follows (drop_each is_held m) c.loop-place.page c.drop_held.new.page lines lines) (sym k) (c.drop_held.ensures.follows lines)) places places index c.args.page.now lines
          (slice_get-get_or places index 0 c.loop-place-test.true) (c.loop-place.invariant.begins lines);
    }

pub returns-clause-each : goal.returns-clause-each
returns-clause-each g c = λ lines. all_begun (λ i r. drop_each is_held i.number r) c.args.places.now c.args.places.now c.loop-place.place-index c.args.page.now c.loop-place.page lines lines c.loop-place-test.false (c.loop-place.invariant.begins lines)
