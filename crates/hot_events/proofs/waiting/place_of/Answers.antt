use Rattle.std.proofs.Common.{get_or, ap, ◌∙◌}
use Rattle.std.proofs.lemmas.Bool.{eq-eqb}
use Rattle.std.proofs.lemmas.List.{get_or_default}
use Rattle.hot_events.proofs.Places.{taken_there}
use Rattle.hot_events.proofs.waiting.place_of.Goals as goal

pub returns-then-lists-place-clause-taken : goal.returns-then-lists-place-clause-taken
returns-then-lists-place-clause-taken c d =
    let rows = c.args.lists.now in
    let place = c.loop-place.place in
    let here = get_or_default rows place d c.index-lists-place.result c.loop-place-test.true in
    taken_there c.args.client rows place d c.loop-place-test.true c.loop-place.invariant.taken
    (eq-eqb (get_or rows place d).0 c.args.client (ap (λ r. r.0) here ∙ c.if-lists-place.true))
