use Rattle.std.proofs.Common.{◌∙◌, get_or}
use Rattle.std.proofs.lemmas.Option.{slice_get-get_or}
use Rattle.client_model.specs.Applying.{prune_instance}
use Rattle.module_language.specs.ModuleLanguage.{module_language}
use Rattle.page_ends.proofs.Each.{next_begins, all_begun, within_page}
use Rattle.prunes_and_events.proofs.prune.prune_each.Goals as goal

pub loop-place-preserved : goal.loop-place-preserved
loop-place-preserved g c =
    let places = c.args.places.now in
    let index = c.loop-place.place-index in
    record {
      long = c.in_ok-prune_instance.ensures.count ∙ c.loop-place.invariant.long;
      words = c.in_ok-prune_instance.ensures.words;
      begins = next_begins (prune_instance module_language) (get_or places index 0) c.loop-place.page c.prune_instance.new.page c.loop-place.lines.items c.prune_instance.new.lines.items
          (within_page c.args.page.now c.loop-place.page places index c.requires.places c.loop-place-test.true c.loop-place.invariant.long)
          (λ i k n. c.in_ok-prune_instance.ensures.follows i k n) places places index c.args.page.now c.args.lines.now.items
          (slice_get-get_or places index 0 c.loop-place-test.true) c.loop-place.invariant.begins;
    }

pub returns-clause-each : goal.returns-clause-each
returns-clause-each g c = all_begun (prune_instance module_language) c.args.places.now c.args.places.now c.loop-place.place-index c.args.page.now c.loop-place.page c.args.lines.now.items c.loop-place.lines.items c.loop-place-test.false c.loop-place.invariant.begins
