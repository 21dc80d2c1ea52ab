use Rattle.std.proofs.Common.{◌≡◌, ap, sym, ◌∙◌}
use Rattle.std.specs.Prelude.{None, Some}
use Rattle.core_model.specs.Core.{client_at}
use Rattle.hmr_world.proofs.Telling.{no_bye, told_bye}
use Rattle.hmr_world.proofs.world.World.bye_of.Goals as goal

-- the client is open
pub returns-in-Some : goal.returns-in-Some
returns-in-Some g c = λ run s.
    let world = c.args.self.now in
    let i = c.args.client in
    let h = c.in-Some.field-0.now in
    let there : client_at world.clients.items i ≡ Some h =
    ap (λ l. client_at l i) (sym c.deref.ensures.value) ∙ sym c.in-Some.ensures in
    told_bye run world s i h there

-- the client isn't open
pub returns-in-None : goal.returns-in-None
returns-in-None g c = λ run s.
    let world = c.args.self.now in
    let i = c.args.client in
    let none : client_at world.clients.items i ≡ None =
    ap (λ l. client_at l i) (sym c.deref.ensures.value) ∙ sym c.in-None.ensures in
    no_bye run world s i none
