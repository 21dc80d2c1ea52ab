use Rattle.std.proofs.Common.{rules, map, sym, ◌∙◌}
use Rattle.std.specs.Prelude.{◌==◌}
use Rattle.std.proofs.lemmas.List.{length_push}
use Rattle.std.proofs.lemmas.Iterator.Consumers.{YieldsList-turn, YieldsList-end}
use Rattle.std.proofs.lemmas.Iterator.Splits.{YieldsList-from_slice_split}
use borrow.Author.Tests.{tests}
use Rattle.hmr_types.specs.ModName.{parts, slash}
use Rattle.file_names.proofs.Walks.{walk_ends, walk_on}
use Rattle.file_names.proofs.specifier.walked.Goals as goal

pub loop-part-preserved : goal.loop-part-preserved
loop-part-preserved c =
    let road = YieldsList-from_slice_split _ (λ b. b == slash) c.args.rest.now (search rules) (search rules) (search rules) (λ x b q k. search (rules, tests)) in
    let turn = YieldsList-turn road c.loop-part.yielded _ c.loop-part.yielded_by _ _ c.in-Some.part c.in-Some.is c.next.ensures.steps in
    rw length_push (walk_on (map (λ s. s.now) c.loop-part.segments.items) (map (λ s. s.now) c.take_part.new.segments.items) (parts c.args.rest.now) _ c.in-Some.part.now turn c.in_ok-take_part.ensures ∙ c.loop-part.invariant)

pub returns : goal.returns
returns c =
    let road = YieldsList-from_slice_split _ (λ b. b == slash) c.args.rest.now (search rules) (search rules) (search rules) (λ x b q k. search (rules, tests)) in
    let end = YieldsList-end road c.loop-part.yielded _ c.loop-part.yielded_by _ _ c.in-None.is c.next.ensures.steps in
    sym (walk_ends (map (λ s. s.now) c.args.from.items) (map (λ s. s.now) c.loop-part.segments.items) (parts c.args.rest.now) _ c.loop-part.invariant end.1)
