use Rattle.std.proofs.Common.{◌≡◌, ap, sym, ◌∙◌}
use Rattle.std.specs.Prelude.{Some}
use Rattle.core_model.specs.Core.{client_at}
use Rattle.hmr_world.proofs.Looking.{up_known}
use Rattle.hmr_world.proofs.world.World.caught_up.Goals as goal

pub returns-then-at_rest : goal.returns-then-at_rest
returns-then-at_rest g c = λ run s.
    let world = c.args.self.now in
    let i = c.args.client in
    let h = c.in-Some.runtime.now in
    let there : client_at world.clients.items i ≡ Some h =
    ap (λ l. client_at l i) (sym c.deref.ensures.value) ∙ sym c.in-Some.ensures in
    up_known run i world s h there c.at_rest.result c.at_rest-then-at_rest.result
    c.if-at_rest.true c.at_rest.ensures c.at_rest-then-at_rest.ensures
