use Rattle.std.proofs.Common.{◌∙◌, ◌<◌, length, get_or}
use Rattle.std.proofs.lemmas.List.Elements.{All-get_or}
use Rattle.std.proofs.lemmas.Option.{slice_get-get_or}
use Rattle.client_model.specs.Applying.{replace_instance}
use Rattle.module_language.specs.ModuleLanguage.{module_language}
use Rattle.page_plan.specs.Numbers.{new_number}
use Rattle.page_ends.specs.Each.{HasNew}
use Rattle.page_state.specs.Standing.{name_at}
use Rattle.page_ends.proofs.Each.{next_begins, all_begun, names_by, new_kept, within_page}
use Rattle.page_lifecycle.proofs.replace.replace_each.Goals as goal

pub replace_at-requires-clause-number : goal.replace_at-requires-clause-number
replace_at-requires-clause-number g c =
    let places = c.args.places.now in
    let index = c.loop-place.place-index in
    new_kept c.args.numbers.now c.args.page.now c.loop-place.page (get_or places index 0) (All-get_or (λ k. k < length c.args.page.now.instances.items) places index 0 c.loop-place-test.true c.requires.places)
    c.loop-place.invariant.names (All-get_or (λ k. HasNew c.args.numbers.now (name_at c.args.page.now k)) places index 0 c.loop-place-test.true c.requires.numbers)

pub loop-place-preserved : goal.loop-place-preserved
loop-place-preserved g c =
    let places = c.args.places.now in
    let index = c.loop-place.place-index in
    record {
      long = c.in_ok-replace_at.ensures.count ∙ c.loop-place.invariant.long;
      words = c.in_ok-replace_at.ensures.words;
      names = λ k n e. names_by (replace_instance module_language (new_number c.args.numbers.now)) (get_or places index 0) c.loop-place.page c.replace_at.new.page c.loop-place.lines.items c.replace_at.new.lines.items
          (within_page c.args.page.now c.loop-place.page places index c.requires.places c.loop-place-test.true c.loop-place.invariant.long)
          (λ i k n. c.in_ok-replace_at.ensures.follows i k n) k n (c.loop-place.invariant.names k n e);
      begins = next_begins (replace_instance module_language (new_number c.args.numbers.now)) (get_or places index 0) c.loop-place.page c.replace_at.new.page c.loop-place.lines.items c.replace_at.new.lines.items
          (within_page c.args.page.now c.loop-place.page places index c.requires.places c.loop-place-test.true c.loop-place.invariant.long)
          (λ i k n. c.in_ok-replace_at.ensures.follows i k n) places places index c.args.page.now c.args.lines.now.items
          (slice_get-get_or places index 0 c.loop-place-test.true) c.loop-place.invariant.begins;
    }

pub returns-clause-each : goal.returns-clause-each
returns-clause-each g c = all_begun (replace_instance module_language (new_number c.args.numbers.now)) c.args.places.now c.args.places.now c.loop-place.place-index c.args.page.now c.loop-place.page c.args.lines.now.items c.loop-place.lines.items c.loop-place-test.false c.loop-place.invariant.begins
