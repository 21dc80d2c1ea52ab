use Rattle.std.proofs.Common.{◌≡◌, ◌∙◌, ◌+◌, ◌∷◌, [], ap, length, arith}
use Rattle.std.proofs.lemmas.List.{length-append}
use Rattle.std.specs.Arc.{arc_value}
use Rattle.transform_pool.specs.Passes as queues
use Rattle.transform_pool.specs.Passes.{role_of}
use Rattle.transform_pool.specs.Roles.{taking}
use Rattle.live_crew.proofs.Doors.{doors_then}
use Rattle.live_crew.proofs.Elements.{all_front, all_last}
use Rattle.live_crew.proofs.Passes.{divided_then}
use Rattle.live_crew.proofs.crew.Crew.begin_workers.Goals as goal

pub loop-jobs-preserved : goal.loop-jobs-preserved
loop-jobs-preserved g c =
    let i = c.loop-jobs.invariant in
    let b = c.begin_worker.ensures in
    record {
      crew = b.crew;
      of = b.of;
      divided = divided_then _ _ _ i.divided b.divided;
      takers = all_front (λ p. queues.IsPassOf (arc_value c.args.context.now.queue) p) c.pop.new.self.items c.loop-jobs.takers.items c.in-Some.jobs c.in-Some.ensures.items i.takers;
      take = all_front (λ p. role_of p ≡ taking) c.pop.new.self.items c.loop-jobs.takers.items c.in-Some.jobs c.in-Some.ensures.items i.take;
      made = i.made + 1;
      all = omega (arith, i.all, ap (λ xs. length xs) c.in-Some.ensures.items, length-append c.pop.new.self.items (c.in-Some.jobs ∷ []));
      few = omega (arith, i.few, b.few);
      due = omega (arith, i.due, b.due);
      keeps = doors_then g.E.Door.Door _ _ _ _ _ _ _ _ i.divided i.keeps b.keeps;
      shut = b.shut ∙ i.shut;
    }

pub begin_worker-requires-clause-of_queue : goal.begin_worker-requires-clause-of_queue
begin_worker-requires-clause-of_queue g c κs within =
    all_last (λ p. queues.IsPassOf (arc_value c.args.context.now.queue) p) c.pop.new.self.items c.loop-jobs.takers.items c.in-Some.jobs c.in-Some.ensures.items c.loop-jobs.invariant.takers

pub begin_worker-requires-clause-takes : goal.begin_worker-requires-clause-takes
begin_worker-requires-clause-takes g c κs within =
    all_last (λ p. role_of p ≡ taking) c.pop.new.self.items c.loop-jobs.takers.items c.in-Some.jobs c.in-Some.ensures.items c.loop-jobs.invariant.take

pub begin_worker-requires-clause-few : goal.begin_worker-requires-clause-few
begin_worker-requires-clause-few g c =
    let i = c.loop-jobs.invariant in
    omega (arith, c.requires.few, i.few, i.all, ap (λ xs. length xs) c.in-Some.ensures.items, length-append c.pop.new.self.items (c.in-Some.jobs ∷ []))

pub returns-in_err-begin_worker-clause-divided : goal.returns-in_err-begin_worker-clause-divided
returns-in_err-begin_worker-clause-divided g c = divided_then _ _ _ c.loop-jobs.invariant.divided c.begin_worker.ensures.divided

pub returns-in_err-begin_worker-clause-keeps : goal.returns-in_err-begin_worker-clause-keeps
returns-in_err-begin_worker-clause-keeps g c =
    doors_then g.E.Door.Door _ _ _ _ _ _ _ _ c.loop-jobs.invariant.divided c.loop-jobs.invariant.keeps c.begin_worker.ensures.keeps
