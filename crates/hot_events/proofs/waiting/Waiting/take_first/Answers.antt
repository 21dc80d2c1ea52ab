use Rattle.std.proofs.Common.{◌∙◌, drop, get_or, slice_set, sym, ap}
use Rattle.hot_events.specs.Calls.{first_of}
use Rattle.hot_events.proofs.Standing.{first_stands, stands_takes}
use Rattle.hot_events.proofs.waiting.Waiting.take_first.Goals as goal

pub returns-in-Some-clause-stands : goal.returns-in-Some-clause-stands
returns-in-Some-clause-stands c past h =
    let place = c.in-Some.place in
    let row = c.index_mut.result.now in
    let items = c.self.inside.lists.items in
    ap (λ q. slice_set items place (row.0, q)) c.take_first.ensures.rest
    ∙ ap (λ r. slice_set items place (r.0, drop 1 r.1)) c.index_mut.ensures.value
    ∙ ap (λ l. slice_set l place ((get_or l place row).0, drop 1 (get_or l place row).1)) (sym c.deref.ensures.value)
    ∙ sym (c.in-Some.ensures.taken row)
    ∙ stands_takes past c.args.client c.deref.result.now (c.deref.ensures.value ∙ c.self.view_is ∙ h)

pub returns-in-Some-clause-answer : goal.returns-in-Some-clause-answer
returns-in-Some-clause-answer c past h =
    let place = c.in-Some.place in
    let row = c.index_mut.result.now in
    c.take_first.ensures.first
    ∙ ap (λ r. first_of r.1) c.index_mut.ensures.value
    ∙ ap (λ l. first_of (get_or l place row).1) (sym c.deref.ensures.value)
    ∙ sym (c.in-Some.ensures.first row)
    ∙ first_stands past c.args.client c.deref.result.now (c.deref.ensures.value ∙ c.self.view_is ∙ h)

pub returns-in-None-clause-stands : goal.returns-in-None-clause-stands
returns-in-None-clause-stands c past h =
    sym c.self.view_is ∙ sym c.deref.ensures.value ∙ sym c.in-None.ensures.none.1
    ∙ stands_takes past c.args.client c.deref.result.now (c.deref.ensures.value ∙ c.self.view_is ∙ h)

pub returns-in-None-clause-answer : goal.returns-in-None-clause-answer
returns-in-None-clause-answer c past h =
    sym c.in-None.ensures.none.0
    ∙ first_stands past c.args.client c.deref.result.now (c.deref.ensures.value ∙ c.self.view_is ∙ h)
