use Rattle.std.proofs.Common.{◌≡◌, ap, sym, ◌∙◌}
use Rattle.std.specs.Prelude.{None, Some}
use Rattle.core_model.specs.Core.{client_at}
use Rattle.hmr_world.proofs.Telling.{no_request, told_request}
use Rattle.hmr_world.proofs.world.World.request_of.Goals as goal

-- the client is open
pub returns-in_ok-request-in-Some : goal.returns-in_ok-request-in-Some
returns-in_ok-request-in-Some g c = λ run s.
    let world = c.args.self.now in
    let i = c.args.client in
    let h = c.in-Some.runtime.now in
    let there : client_at world.clients.items i ≡ Some h =
    ap (λ l. client_at l i) (sym c.deref.ensures.value) ∙ sym c.in-Some.ensures in
    ap Some c.event_of.ensures
    ∙ told_request run world s i h there c.in_ok-request-in-Some.field-0 c.in_ok-request-in-Some.ensures.request

-- the client isn't open
pub returns-in-None : goal.returns-in-None
returns-in-None g c = λ run s.
    let world = c.args.self.now in
    let i = c.args.client in
    let none : client_at world.clients.items i ≡ None =
    ap (λ l. client_at l i) (sym c.deref.ensures.value) ∙ sym c.in-None.ensures in
    no_request run world s i none
