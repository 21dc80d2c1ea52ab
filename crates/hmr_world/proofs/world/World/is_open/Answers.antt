use Rattle.std.proofs.Common.{◌≡◌, ap, sym, ◌∙◌}
use Rattle.std.specs.Prelude.{None, Some, is_some}
use Rattle.core_model.specs.Core.{client_at}
use Rattle.world_laws.specs.Runs.{world_of}
use Rattle.hmr_world.proofs.Looking.{opened}
use Rattle.hmr_world.proofs.Opened.{closed_at}
use Rattle.hmr_world.proofs.world.World.is_open.Goals as goal

pub returns-in-Some : goal.returns-in-Some
returns-in-Some g c = λ run s.
    let world = c.args.self.now in
    let i = c.args.client in
    let h = c.in-Some.field-0.now in
    let there : client_at world.clients.items i ≡ Some h =
    ap (λ l. client_at l i) (sym c.deref.ensures.value) ∙ sym c.in-Some.ensures in
    sym (ap is_some (opened run i world s h there).there)

pub returns-in-None : goal.returns-in-None
returns-in-None g c = λ run s.
    let world = c.args.self.now in
    let i = c.args.client in
    let none : client_at world.clients.items i ≡ None =
    ap (λ l. client_at l i) (sym c.deref.ensures.value) ∙ sym c.in-None.ensures in
    sym (ap is_some (closed_at (world_of run).clients world.clients.items i s.has.clients none))
