use Rattle.std.proofs.Common.{◌∙◌, get_or, sym, ap}
use Rattle.hot_events.specs.Calls.{first_of}
use Rattle.hot_events.proofs.Standing.{first_stands}
use Rattle.hot_events.proofs.waiting.Waiting.first.Goals as goal

pub returns-in-Some : goal.returns-in-Some
returns-in-Some c past h =
    let row = c.index.result.now in
    c.first.ensures
    ∙ ap (λ r. first_of r.1) c.index.ensures
    ∙ ap (λ l. first_of (get_or l c.in-Some.place row).1) (sym c.deref.ensures.value)
    ∙ sym (c.in-Some.ensures.first row)
    ∙ first_stands past c.args.client c.deref.result.now (c.deref.ensures.value ∙ c.self.view_is ∙ h)

pub returns-in-None : goal.returns-in-None
returns-in-None c past h =
    sym c.in-None.ensures.none.0
    ∙ first_stands past c.args.client c.deref.result.now (c.deref.ensures.value ∙ c.self.view_is ∙ h)
