use Rattle.std.proofs.Common.{◌∙◌, ◌++◌, ◌∷◌, [], ap, sym, refl, length, rules}
use Rattle.std.specs.Prelude.{if◌then◌else◌, reverse}
use Rattle.std.proofs.lemmas.Option.{slice_get_read}
use Rattle.page_ends.specs.Each.{falling, is_live_of, is_of}
use Rattle.page_ends.proofs.Each.{rising_more}
use Rattle.page_ends.proofs.places.rising_places.Goals as goal

pub loop-place-preserved : goal.loop-place-preserved
loop-place-preserved g c =
    let items = c.args.page.now.instances.items in
    let place = c.loop-place.place in
    let read = slice_get_read items (length items) place c.index.result.now refl (search rules) c.index.ensures in
    c.in_ok-add_place.ensures ∙ ap (λ ps. ps ++ (if c.is_meant.result then place ∷ [] else [])) c.loop-place.invariant
    ∙ ap (λ b. reverse (falling (is_of c.args.whose.now) items place) ++ (if b then place ∷ [] else [])) (c.is_meant.ensures ∙ ap (is_live_of (is_of c.args.whose.now)) (sym read))
    ∙ sym (rising_more (is_of c.args.whose.now) items place)
