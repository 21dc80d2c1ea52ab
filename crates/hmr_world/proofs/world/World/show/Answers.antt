use Rattle.std.proofs.Common.{◌≡◌, ap, refl, sym, ◌∙◌}
use Rattle.std.specs.Prelude.{None, Some}
use Rattle.core_model.specs.Core.{client_at}
use Rattle.client_model.specs.Printing.{show_lines}
use Rattle.world_model.specs.Turning.{state_in}
use Rattle.world_model.specs.World.{show}
use Rattle.world_laws.specs.Runs.{world_of}
use Rattle.hmr_world.proofs.Looking.{look_unknown, show_step}
use Rattle.hmr_world.proofs.world.World.show.Goals as goal

pub returns-in_default : goal.returns-in_default
returns-in_default g c = λ run s.
    let world = c.args.self.now in
    let i = c.args.client in
    let none : client_at world.clients.items i ≡ None =
    ap (λ l. client_at l i) (sym c.deref.ensures.value) ∙ sym c.in_default.ensures in
    look_unknown run i world s (show i) (λ r. show_lines (state_in (world_of run) i r) r)
    c.in_ok-unknown.field-0 refl none c.in_ok-unknown.ensures

pub returns : goal.returns
returns g c = λ run s.
    let world = c.args.self.now in
    let i = c.args.client in
    let h = c.in-Some.runtime.now in
    let there : client_at world.clients.items i ≡ Some h =
    ap (λ l. client_at l i) (sym c.deref.ensures.value) ∙ sym c.in-Some.ensures in
    show_step run i world s h there
    c.caught_up.result c.state_of-state.result c.in_ok-table.field-0 c.in_ok-stale.field-0.items
    c.in_ok-lines.lines.items c.add_modules.new.lines.items c.add_stale.new.lines
    (c.caught_up.ensures run s) c.state_of-state.ensures c.in_ok-table.ensures c.in_ok-stale.ensures
    c.in_ok-lines.ensures c.in_ok-add_modules.ensures c.in_ok-add_stale.ensures
