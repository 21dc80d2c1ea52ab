use Rattle.std.proofs.Common.{◌≡◌, ◌∙◌, length, sym, ap}
use Rattle.std.proofs.lemmas.List.{length-map, with_items_is}
use Rattle.hot_events.specs.Calls.{Event}
use Rattle.hot_events.specs.Rows.{added_to, added_to_each}
use Rattle.hot_events.proofs.Standing.{full_stands, stands_emits}
use Rattle.hot_events.proofs.waiting.Waiting.emit.Goals as goal

pub returns-clause-stands : goal.returns-clause-stands
returns-clause-stands c past h =
    let event : Event = (c.args.event.now, c.args.value.now) in
    let lists = c.self.inside.lists in
    let rows = c.deref_mut.result.now in
    let new = c.add_to_each.new.lists in
    let added : new ≡ added_to_each event rows = c.add_to_each.ensures event c.in_ok-events.ensures.same in
    let as_long : length new ≡ length lists.items =
    ap length added ∙ length-map rows (λ row. (row.0, added_to event row.1)) ∙ ap length c.deref_mut.ensures.value in
    with_items_is lists new (as_long ∙ sym lists.ok.0)
    ∙ added
    ∙ stands_emits past c.args.event.now c.args.value.now rows (c.deref_mut.ensures.value ∙ c.self.view_is ∙ h)

pub returns-clause-answer : goal.returns-clause-answer
returns-clause-answer c past h =
    c.in_ok-full.ensures ∙ full_stands past c.deref.result.now (c.deref.ensures.value ∙ c.self.view_is ∙ h)
