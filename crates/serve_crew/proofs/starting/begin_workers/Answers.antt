use Rattle.std.proofs.Common.{◌+◌, ◌∷◌, [], ap, length, arith}
use Rattle.std.proofs.lemmas.List.{length-append}
use Rattle.crew_plans.proofs.Passes.{given_ok}
use Rattle.serve_crew.proofs.Begins.{all_none, all_then, begins_none, begins_then}
use Rattle.serve_crew.proofs.starting.begin_workers.Goals as goal

pub loop-jobs-init : goal.loop-jobs-init
loop-jobs-init g c = record {
  begins = begins_none _ _ _ _ c.requires.crew c.requires.of;
  made = 0;
  gone = omega arith;
  all = all_none _ _ _;
  given = λ h. h;
}

pub loop-jobs-preserved : goal.loop-jobs-preserved
loop-jobs-preserved g c =
    let i = c.loop-jobs.invariant in
    let b = c.begin_worker.ensures in
    let ok = c.in_ok-begin_worker.ensures in
    record {
      begins = begins_then i.begins i.all.goes b.begins;
      made = i.made + 1;
      gone = omega (arith, i.gone, ap (λ xs. length xs) c.in-Some.ensures.items, length-append c.next_taker.new.self.takers.items (c.in-Some.jobs ∷ []));
      all = all_then i.all b.begins ok.all;
      given = λ h. given_ok _ _ _ ok.spent (i.given h);
    }

pub begin_worker-requires-clause-few : goal.begin_worker-requires-clause-few
begin_worker-requires-clause-few g c =
    let i = c.loop-jobs.invariant in
    omega (arith, c.requires.few, i.all.few, i.gone, ap (λ xs. length xs) c.in-Some.ensures.items, length-append c.next_taker.new.self.takers.items (c.in-Some.jobs ∷ []))

pub returns-in_err-begin_worker-clause-begins : goal.returns-in_err-begin_worker-clause-begins
returns-in_err-begin_worker-clause-begins g c = begins_then c.loop-jobs.invariant.begins c.loop-jobs.invariant.all.goes c.begin_worker.ensures.begins
