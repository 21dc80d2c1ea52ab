use Rattle.std.proofs.Common.{◌≡◌, ap, sym, refl, ◌∙◌}
use Rattle.std.specs.Prelude.{Some}
use Rattle.std.proofs.Math.Path.{subst}
use Rattle.core_model.specs.Core.{client_at}
use Rattle.world_laws.specs.Runs.{world_of}
use Rattle.hmr_world.specs.Clients as clients
use Rattle.hmr_world.proofs.Turned.{close_step, close_unknown}
use Rattle.hmr_world.proofs.Wording.{words_without}
use Rattle.hmr_world.proofs.world.World.close.Goals as goal

-- the client isn't open
pub returns-in_default-clause-step : goal.returns-in_default-clause-step
returns-in_default-clause-step g c = λ run s.
    close_unknown run c.args.client c.args.self.now s c.in_ok-unknown.field-0
    (ap (λ l. client_at l c.args.client) (sym c.deref.ensures.value) ∙ sym c.in_default.ensures)
    c.in_ok-unknown.ensures

-- the client is open
pub returns-clause-step : goal.returns-clause-step
returns-clause-step g c = λ run s.
    let runtime = c.in-Some.field-0.now in
    let there : client_at c.args.self.now.clients.items c.args.client ≡ Some runtime =
    ap (λ l. client_at l c.args.client) (sym c.deref.ensures.value) ∙ sym c.in-Some.ensures in
    close_step run c.args.client c.args.self.now s runtime there _ c.take_out.ensures
    c.in_ok-tell.ensures.roots refl refl (c.in_ok-tell.ensures.stands (world_of run).core s.has.core) c.in_ok-one_line.field-0
    c.in_ok-one_line.ensures

pub returns-clause-words : goal.returns-clause-words
returns-clause-words g c = record {
  clients = subst (clients.KeepWords (goal.F-post g)) (sym c.take_out.ensures)
      (words_without (goal.F-post g) c.args.self.now.clients.items c.requires.words.clients c.args.client);
  shelves = c.requires.words.shelves;
}

pub returns-in_err-one_line-clause-words : goal.returns-in_err-one_line-clause-words
returns-in_err-one_line-clause-words g c = record {
  clients = subst (clients.KeepWords (goal.F-post g)) (sym c.take_out.ensures)
      (words_without (goal.F-post g) c.args.self.now.clients.items c.requires.words.clients c.args.client);
  shelves = c.requires.words.shelves;
}
