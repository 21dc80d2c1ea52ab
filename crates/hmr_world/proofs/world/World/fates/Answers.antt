use Rattle.std.proofs.Common.{◌≡◌, ap, refl, sym, ◌∙◌}
use Rattle.std.specs.Prelude.{None, Some}
use Rattle.core_model.specs.Core.{client_at}
use Rattle.client_model.specs.Printing.{fate_lines}
use Rattle.world_model.specs.World.{fates}
use Rattle.hmr_world.proofs.Looking.{look_unknown, read_step}
use Rattle.hmr_world.proofs.world.World.fates.Goals as goal

pub returns-in_ok-fates-in-Some : goal.returns-in_ok-fates-in-Some
returns-in_ok-fates-in-Some g c = λ run s.
    let world = c.args.self.now in
    let i = c.args.client in
    let h = c.in-Some.runtime.now in
    let there : client_at world.clients.items i ≡ Some h =
    ap (λ l. client_at l i) (sym c.deref.ensures.value) ∙ sym c.in-Some.ensures in
    read_step run i world s h there (fates i) fate_lines
    c.in_ok-fates-in-Some.field-0 refl c.in_ok-fates-in-Some.ensures

pub returns-in_ok-unknown-in-None : goal.returns-in_ok-unknown-in-None
returns-in_ok-unknown-in-None g c = λ run s.
    let world = c.args.self.now in
    let i = c.args.client in
    let none : client_at world.clients.items i ≡ None =
    ap (λ l. client_at l i) (sym c.deref.ensures.value) ∙ sym c.in-None.ensures in
    look_unknown run i world s (fates i) fate_lines
    c.in_ok-unknown-in-None.field-0 refl none c.in_ok-unknown-in-None.ensures
