use Rattle.std.proofs.Common.{rules, ◌==◌, refl}
use Rattle.std.proofs.lemmas.Bool.{le-leb}
use Rattle.std.proofs.lemmas.Iterator.Search.{all_from_yields_List}
use Rattle.std.proofs.lemmas.Iterator.Splits.{YieldsList-from_slice_split}
use borrow.Author.Tests.{tests}
use Rattle.hmr_types.specs.ModName.{is_segment}
use Rattle.hmr_types.proofs.event.are_joined.Goals as goal

pub returns-then-text-le-EVENT_BYTES : goal.returns-then-text-le-EVENT_BYTES
returns-then-text-le-EVENT_BYTES c =
    let few = le-leb _ _ c.if-text-le-EVENT_BYTES.true in
    let parts =
    all_from_yields_List is_segment _ _ _ c.all.ensures.ran
    (YieldsList-from_slice_split _ (λ b. b == c.args.mark) c.args.text.now c.split.ensures.rest c.split.ensures.done c.split.ensures.closure (λ x b q k. search (rules, tests)))
    (λ x b q k. search (rules, tests)) in
    rw (few, parts) refl
