use Rattle.std.proofs.Common.{length, ap, ◌∙◌, ◌∷◌, [], arith}
use Rattle.std.proofs.lemmas.List.{length-append}
use Rattle.crew_plans.proofs.Faults.{gathers_then}
use Rattle.client_jobs.proofs.finishing.finish_clients.Goals as goal

pub loop-client-preserved : goal.loop-client-preserved
loop-client-preserved g c =
    let i = c.loop-client.invariant in
    let f = c.finish_one_client.ensures in
    let items = c.in-Some.ensures.items in
    let count = length-append c.pop.new.self.items (c.in-Some.client ∷ []) in
    record {
      room = omega (arith, i.room, c.in-Some.ensures.cases, f.count, f.room);
      passes = f.passes ∙ i.passes;
      full = f.full ∙ i.full;
      logs = omega (arith, i.logs, f.logs, ap (λ xs. length xs) items, count);
      gathers = gathers_then _ _ _ _ _ _ _ _ _ i.gathers f.gathers;
      asked = (f.asked.0 ∙ i.asked.0, f.asked.1 ∙ i.asked.1);
      begun = f.begun ∙ i.begun;
      ends = λ others h. omega (arith, i.ends others h, f.ends, ap (λ xs. length xs) items, count);
      unasked = (f.unasked.0 ∙ i.unasked.0, f.unasked.1 ∙ i.unasked.1);
    }

pub returns-clause-ends : goal.returns-clause-ends
returns-clause-ends g c =
    λ others h. omega (arith, c.loop-client.invariant.ends others h, c.in_default.ensures.cases.0, c.loop-client.clients.ok.0)
