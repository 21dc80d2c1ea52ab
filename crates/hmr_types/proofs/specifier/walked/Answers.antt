use Rattle.std.proofs.Common.{rules, ◌≡◌, map, sym, ap, ◌∙◌}
use Rattle.std.specs.Prelude.{◌==◌}
use Rattle.std.proofs.lemmas.List.{length_push}
use Rattle.std.proofs.lemmas.Iterator.Consumers.{YieldsList-turn, YieldsList-end}
use Rattle.std.proofs.lemmas.Iterator.Splits.{YieldsList-from_slice_split}
use Rattle.std.proofs.lemmas.Result.{err_from_is_err_and}
use borrow.Author.Tests.{tests}
use Rattle.hmr_types.specs.ModName.{parts, slash}
use Rattle.hmr_types.specs.Specifier.{led_to, name_of}
use Rattle.hmr_types.specs.Results.{◌>>=◌}
use Rattle.hmr_types.proofs.Segments.{walk_on, walk_stops, walk_ends, step-are_segments}
use Rattle.hmr_types.proofs.specifier.walked.Goals as goal

pub loop-part-preserved : goal.loop-part-preserved
loop-part-preserved c =
    let road = YieldsList-from_slice_split _ (λ b. b == slash) c.args.rest.now (search rules) (search rules) (search rules) (λ x b q k. search (rules, tests)) in
    let turn = YieldsList-turn road c.loop-part.yielded _ c.loop-part.yielded_by _ _ c.in-Some.part c.in-Some.is c.next.ensures.steps in
    record {
      leads = rw length_push (walk_on (map (λ s. s.now) c.loop-part.segments.items) (map (λ s. s.now) c.take_part.new.segments.items) (parts c.args.rest.now) _ c.in-Some.part.now turn c.in_ok-take_part.ensures ∙ c.loop-part.invariant.leads);
      segments = step-are_segments (map (λ s. s.now) c.loop-part.segments.items) c.in-Some.part.now (map (λ s. s.now) c.take_part.new.segments.items) c.loop-part.invariant.segments c.in_ok-take_part.ensures;
    }

pub returns-in_err-take_part : goal.returns-in_err-take_part
returns-in_err-take_part c =
    let road = YieldsList-from_slice_split _ (λ b. b == slash) c.args.rest.now (search rules) (search rules) (search rules) (λ x b q k. search (rules, tests)) in
    let turn = YieldsList-turn road c.loop-part.yielded _ c.loop-part.yielded_by _ _ c.in-Some.part c.in-Some.is c.next.ensures.steps in
    let p = err_from_is_err_and c.from_residual.result c.from_residual.ensures.1 in
    rw (p.1, p.2) (walk_stops (map (λ s. s.now) c.args.from.items) (map (λ s. s.now) c.loop-part.segments.items) c.args.rest.now _ c.in-Some.part.now _ c.loop-part.invariant.leads turn c.in_err-take_part.ensures)

pub returns : goal.returns
returns c =
    let road = YieldsList-from_slice_split _ (λ b. b == slash) c.args.rest.now (search rules) (search rules) (search rules) (λ x b q k. search (rules, tests)) in
    let end = YieldsList-end road c.loop-part.yielded _ c.loop-part.yielded_by _ _ c.in-None.is c.next.ensures.steps in
    let leads = walk_ends (map (λ s. s.now) c.args.from.items) (map (λ s. s.now) c.loop-part.segments.items) (parts c.args.rest.now) _ c.loop-part.invariant.leads end.1 in
    let meant : led_to (map (λ s. s.now) c.args.from.items) c.args.rest.now ≡ name_of (map (λ s. s.now) c.deref.result.now) =
    ap (λ r. r >>= name_of) leads ∙ ap (λ segments. name_of (map (λ s. s.now) segments)) (sym c.deref.ensures.value) in
    rw meant c.named.ensures
