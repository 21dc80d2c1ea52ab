use Rattle.std.proofs.Common.{ap, sym, refl, ◌∙◌}
use Rattle.core_model.specs.Core.{client_at}
use Rattle.hmr_world.proofs.Turned.{can_turn, turn_step, turn_unknown}
use Rattle.hmr_world.proofs.Found.{stands_at}
use Rattle.hmr_world.proofs.Wording.{words_at, words_set}
use Rattle.hmr_world.proofs.world.World.turn.Goals as goal

-- the client isn't open
pub returns-in_default-clause-step : goal.returns-in_default-clause-step
returns-in_default-clause-step g c = λ run s.
    turn_unknown run c.args.client c.args.self.now s c.in_ok-unknown.field-0
    (ap (λ l. client_at l c.args.client) (sym c.deref.ensures.value) ∙ c.in_default.ensures.none)
    c.in_ok-unknown.ensures

-- the client is open
pub exchange-requires-clause-words : goal.exchange-requires-clause-words
exchange-requires-clause-words g c =
    let clients = c.args.self.now.clients.items in
    let row = c.index_mut.result.now in
    let spot = stands_at c.deref.result.now clients c.args.client c.in-Some.place row c.deref.ensures.value
    c.index_mut.ensures.value c.in-Some.ensures.within c.in-Some.ensures.there c.in-Some.ensures.number
    c.in-Some.ensures.with in
    words_at (goal.F-post g) clients c.requires.words.clients c.args.client c.in-Some.place row spot

pub exchange-requires-clause-fits : goal.exchange-requires-clause-fits
exchange-requires-clause-fits g c =
    let row = c.index_mut.result.now in
    let spot = stands_at c.deref.result.now c.args.self.now.clients.items c.args.client c.in-Some.place row
    c.deref.ensures.value c.index_mut.ensures.value c.in-Some.ensures.within c.in-Some.ensures.there
    c.in-Some.ensures.number c.in-Some.ensures.with in
    let running = c.requires.running in
    can_turn running.run c.args.client c.args.self.now running.stands row.1 spot.there

pub returns-clause-step : goal.returns-clause-step
returns-clause-step g c = λ run s.
    let row = c.index_mut.result.now in
    let spot = stands_at c.deref.result.now c.args.self.now.clients.items c.args.client c.in-Some.place row
    c.deref.ensures.value c.index_mut.ensures.value c.in-Some.ensures.within c.in-Some.ensures.there
    c.in-Some.ensures.number c.in-Some.ensures.with in
    turn_step run c.args.client c.args.self.now s row.1 spot.there c.exchange.new.runtime _
    (spot.puts c.exchange.new.runtime) c.exchange.ensures.roots refl refl c.exchange.result
    c.exchange.ensures.core c.exchange.ensures.runtime c.exchange.ensures.lines

pub returns-clause-words : goal.returns-clause-words
returns-clause-words g c = record {
  clients = words_set (goal.F-post g) c.args.self.now.clients.items c.requires.words.clients c.in-Some.place
      (c.index_mut.result.now.0, c.exchange.new.runtime) c.exchange.ensures.words;
  shelves = c.requires.words.shelves;
}
