use Rattle.std.proofs.Common.{◌≡◌, ap, sym, refl, ◌∙◌}
use Rattle.std.specs.Prelude.{None, Some, option_map}
use Rattle.core_model.specs.Core.{client_at}
use Rattle.fresh_loads.specs.Fresh.{load_of}
use Rattle.world_model.specs.Steps.{fresh_of_lines, loaded_anew}
use Rattle.world_laws.specs.Runs.{world_of}
use Rattle.world_model.specs.World.{fresh_of}
use Rattle.module_language.specs.ModuleLanguage.{module_language}
use Rattle.hmr_world.proofs.Looking.{fresh_of_some, fresh_of_step, look_unknown}
use Rattle.hmr_world.proofs.world.World.fresh_of.Goals as goal

pub returns-in_default : goal.returns-in_default
returns-in_default g c = λ run s.
    let world = c.args.self.now in
    let i = c.args.client in
    let none : client_at world.clients.items i ≡ None =
    ap (λ l. client_at l i) (sym c.deref.ensures.value) ∙ sym c.in_default.ensures in
    look_unknown run i world s (fresh_of i) (λ r. fresh_of_lines i (loaded_anew module_language (world_of run) r.roots))
    c.in_ok-unknown.field-0 refl none c.in_ok-unknown.ensures

pub returns-in_ok-load_lines-in-Some-2 : goal.returns-in_ok-load_lines-in-Some-2
returns-in_ok-load_lines-in-Some-2 g c = λ run s.
    let world = c.args.self.now in
    let i = c.args.client in
    let h = c.in-Some.field-0.now in
    let there : client_at world.clients.items i ≡ Some h =
    ap (λ l. client_at l i) (sym c.deref.ensures.value) ∙ sym c.in-Some.ensures in
    fresh_of_step run i world s h there c.in-Some-2.load c.in_ok-load_lines-in-Some-2.field-0
    (λ past k. ap (option_map load_of) (sym c.in-Some-2.is) ∙ c.in_ok-load.ensures.stands past k)
    c.in_ok-load_lines-in-Some-2.ensures

-- an open client has a record
pub returns-in_ok-unknown-in-None : goal.returns-in_ok-unknown-in-None
returns-in_ok-unknown-in-None g c = λ run s.
    let world = c.args.self.now in
    let i = c.args.client in
    let h = c.in-Some.field-0.now in
    let there : client_at world.clients.items i ≡ Some h =
    ap (λ l. client_at l i) (sym c.deref.ensures.value) ∙ sym c.in-Some.ensures in
    absurd (fresh_of_some run i world s h there
    (λ past k. ap (option_map load_of) (sym c.in-None.is) ∙ c.in_ok-load.ensures.stands past k))
