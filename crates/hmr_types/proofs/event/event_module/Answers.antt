use Rattle.std.proofs.Common.{rules, arith, ◌≡◌, ◌++◌, ◌∷◌, [], codes, length, string_bytes, ap, ◌∙◌}
use Rattle.std.proofs.lemmas.List.{length_push}
use Rattle.std.proofs.lemmas.Iterator.Consumers.{YieldsList-turn, YieldsList-end}
use Rattle.std.proofs.lemmas.Iterator.Splits.{YieldsList-from_str_split}
use Rattle.hmr_types.specs.Event.{colon, event_module}
use Rattle.hmr_types.specs.ModName.{slash}
use Rattle.hmr_types.specs.Specifier.{spelled}
use Rattle.hmr_types.proofs.Events.{between_marks, part_put, parts_put, spelled_between}
use Rattle.hmr_types.proofs.event.event_module.Goals as goal

pub loop-part-init : goal.loop-part-init
loop-part-init c =
    let begun : string_bytes c.in_ok-name.name ≡ codes "/event" = search rules in
    ap (λ v. v ++ spelled (between_marks colon c.args.event.now)) begun ∙ ap (λ v. codes "/event" ++ v) (spelled_between colon c.args.event.now)

pub loop-part-preserved : goal.loop-part-preserved
loop-part-preserved c =
    let put : string_bytes c.push.new.self ≡ string_bytes c.loop-part.name ++ (slash ∷ []) = search rules in
    let whole : string_bytes c.push_str.new.self ≡ string_bytes c.push.new.self ++ c.in-Some.part.now = search rules in
    let road = YieldsList-from_str_split colon c.args.event.now (omega arith) (search rules) (search rules) (search rules) in
    let turn = YieldsList-turn road c.loop-part.yielded _ c.loop-part.yielded_by _ _ c.in-Some.part c.in-Some.is c.next.ensures.steps in
    rw length_push (part_put _ _ _ (between_marks colon c.args.event.now) (length c.loop-part.yielded) c.in-Some.part.now (event_module c.args.event.now) turn put whole c.loop-part.invariant)

pub returns : goal.returns
returns c =
    let road = YieldsList-from_str_split colon c.args.event.now (omega arith) (search rules) (search rules) (search rules) in
    let end = YieldsList-end road c.loop-part.yielded _ c.loop-part.yielded_by _ _ c.in-None.is c.next.ensures.steps in
    c.from_string.ensures ∙ parts_put _ (event_module c.args.event.now) (between_marks colon c.args.event.now) (length c.loop-part.yielded) end.1 c.loop-part.invariant
