use Rattle.std.proofs.Common.{◌∙◌, [], refl, sym, ap}
use Rattle.std.specs.List.{insert}
use Rattle.hot_events.specs.Rows.{Row, rows_without, with_row}
use Rattle.hot_events.proofs.Standing.{stands_enters}
use Rattle.hot_events.proofs.waiting.Waiting.enter.Goals as goal

pub returns-clause-stands : goal.returns-clause-stands
returns-clause-stands c past h =
    let client = c.args.client in
    let place = c.place_for-place.result in
    let row : Row = (client, []) in
    let others = c.deref.ensures.value ∙ c.take_out.ensures.items ∙ ap (rows_without client) c.reserve.ensures.items in
    c.in-Ok.ensures.items
    ∙ ap (λ q. insert c.take_out.new.lists.items place (client, q)) c.in_ok-queue.ensures
    ∙ ap (λ l. insert l place row) (sym c.deref.ensures.value)
    ∙ c.place_for-place.ensures.with row refl
    ∙ ap (with_row row) others
    ∙ stands_enters past client c.self.inside.lists.items (c.self.view_is ∙ h)
