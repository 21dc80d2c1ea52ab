use Rattle.std.proofs.Common.{ap, sym, refl, ◌∙◌}
use Rattle.core_model.specs.Core.{client_at}
use Rattle.world_model.specs.World.{fires}
use Rattle.run_promises.specs.RunSteps.{run_on}
use Rattle.hmr_world.proofs.Fired.{fire_heard, fire_never, fire_stands}
use Rattle.hmr_world.proofs.Fired.{lacks_memory, unknown_heard, unknown_stands}
use Rattle.hmr_world.proofs.Found.{stands_at}
use Rattle.hmr_world.proofs.Wording.{words_at}
use Rattle.hmr_world.proofs.world.World.fire.Goals as goal

-- the client isn't open
pub returns-in_default-clause-stands : goal.returns-in_default-clause-stands
returns-in_default-clause-stands g c = λ run s.
    unknown_stands run c.args.client c.args.event.now c.args.value.now c.args.self.now s
    (ap (λ l. client_at l c.args.client) (sym c.deref.ensures.value) ∙ c.in_default.ensures.none)

pub returns-in_default-clause-answer : goal.returns-in_default-clause-answer
returns-in_default-clause-answer g c = λ run s.
    unknown_heard run c.args.client c.args.event.now c.args.value.now c.args.self.now s
    (ap (λ l. client_at l c.args.client) (sym c.deref.ensures.value) ∙ c.in_default.ensures.none)

-- the client is open
pub fire-requires-clause-words : goal.fire-requires-clause-words
fire-requires-clause-words g c =
    let clients = c.args.self.now.clients.items in
    let row = c.index_mut.result.now in
    let spot = stands_at c.deref.result.now clients c.args.client c.in-Some.place row c.deref.ensures.value
    c.index_mut.ensures.value c.in-Some.ensures.within c.in-Some.ensures.there c.in-Some.ensures.number
    c.in-Some.ensures.with in
    words_at (goal.F-post g) clients c.requires.words.clients c.args.client c.in-Some.place row spot

pub returns-in-Ok-clause-stands : goal.returns-in-Ok-clause-stands
returns-in-Ok-clause-stands g c = λ run s.
    let row = c.index_mut.result.now in
    let spot = stands_at c.deref.result.now c.args.self.now.clients.items c.args.client c.in-Some.place row
    c.deref.ensures.value c.index_mut.ensures.value c.in-Some.ensures.within c.in-Some.ensures.there
    c.in-Some.ensures.number c.in-Some.ensures.with in
    fire_stands run c.args.client c.args.event.now c.args.value.now c.args.self.now s row.1 spot.there
    c.fire.new.runtime _ (spot.puts c.fire.new.runtime) refl refl refl c.in-Ok.ensures.stands

pub returns-in-Ok-clause-answer : goal.returns-in-Ok-clause-answer
returns-in-Ok-clause-answer g c = λ run s.
    let row = c.index_mut.result.now in
    let spot = stands_at c.deref.result.now c.args.self.now.clients.items c.args.client c.in-Some.place row
    c.deref.ensures.value c.index_mut.ensures.value c.in-Some.ensures.within c.in-Some.ensures.there
    c.in-Some.ensures.number c.in-Some.ensures.with in
    fire_heard run c.args.client c.args.event.now c.args.value.now c.args.self.now s row.1 spot.there
    c.in-Ok.lines c.in-Ok.ensures.answer

pub returns-in-Ok-clause-running : goal.returns-in-Ok-clause-running
returns-in-Ok-clause-running g c =
    let run = c.requires.running.run in
    record {
      run = run_on run (fires c.args.client c.args.event.now c.args.value.now);
      stands = returns-in-Ok-clause-stands g c run c.requires.running.stands;
    }

-- no other fault comes than that memory ran out
pub unreachable-requires : goal.unreachable-requires
unreachable-requires g c =
    let row = c.index_mut.result.now in
    let spot = stands_at c.deref.result.now c.args.self.now.clients.items c.args.client c.in-Some.place row
    c.deref.ensures.value c.index_mut.ensures.value c.in-Some.ensures.within c.in-Some.ensures.there
    c.in-Some.ensures.number c.in-Some.ensures.with in
    let fault = c.in-Err-Unexpected in
    fire_never c.requires.running.run c.args.client c.args.event.now c.args.value.now c.args.self.now
    c.requires.running.stands row.1 spot.there fault.field-0 (ap lacks_memory fault.field-0-is)
    fault.ensures.answer

pub unreachable-requires-in-Err-InstancesFull : goal.unreachable-requires-in-Err-InstancesFull
unreachable-requires-in-Err-InstancesFull g c =
    let row = c.index_mut.result.now in
    let spot = stands_at c.deref.result.now c.args.self.now.clients.items c.args.client c.in-Some.place row
    c.deref.ensures.value c.index_mut.ensures.value c.in-Some.ensures.within c.in-Some.ensures.there
    c.in-Some.ensures.number c.in-Some.ensures.with in
    let fault = c.in-Err-InstancesFull in
    fire_never c.requires.running.run c.args.client c.args.event.now c.args.value.now c.args.self.now
    c.requires.running.stands row.1 spot.there fault.field-0 (ap lacks_memory fault.field-0-is)
    fault.ensures.answer

pub unreachable-requires-in-Err-Stopped : goal.unreachable-requires-in-Err-Stopped
unreachable-requires-in-Err-Stopped g c =
    let row = c.index_mut.result.now in
    let spot = stands_at c.deref.result.now c.args.self.now.clients.items c.args.client c.in-Some.place row
    c.deref.ensures.value c.index_mut.ensures.value c.in-Some.ensures.within c.in-Some.ensures.there
    c.in-Some.ensures.number c.in-Some.ensures.with in
    let fault = c.in-Err-Stopped in
    fire_never c.requires.running.run c.args.client c.args.event.now c.args.value.now c.args.self.now
    c.requires.running.stands row.1 spot.there fault.field-0 (ap lacks_memory fault.field-0-is)
    fault.ensures.answer
