use Rattle.std.proofs.Common.{◌≡◌, ◌∙◌, ◌∷◌, [], ap, arith, length}
use Rattle.std.proofs.lemmas.Grind.{common_steps}
use Rattle.std.proofs.lemmas.List.{length-append}
use Rattle.live_crew.specs.Crews.{RunsOn}
use Rattle.live_crew.specs.Doors.{doors_in}
use Rattle.live_crew.proofs.Crews.{passes_taken}
use Rattle.live_crew.proofs.Doors.{finishing_all, finishing_one}
use Rattle.live_crew.proofs.Elements.{all_front, all_last}
use Rattle.live_crew.proofs.finishing.finish_jobs.Goals as goal

pub finish_job-requires-clause-runs : goal.finish_job-requires-clause-runs
finish_job-requires-clause-runs g c = all_last (RunsOn g.E.Door.Door c.args.hub.now) c.pop.new.self.items c.loop-job.running.items c.in-Some.job c.in-Some.ensures.items c.loop-job.invariant.jobs

pub loop-job-preserved : goal.loop-job-preserved
loop-job-preserved g c =
    let i = c.loop-job.invariant in
    let f = c.finish_job.ensures in
    record {
      jobs = all_front (RunsOn g.E.Door.Door c.args.hub.now) c.pop.new.self.items c.loop-job.running.items c.in-Some.job c.in-Some.ensures.items i.jobs;
      room = omega (arith, i.room, c.in-Some.ensures.cases, f.taken.count, f.taken.room);
      of = passes_taken c.args.hub.now _ _ f.taken i.of;
      due =
          omega (
            arith,
            i.due,
            ap (λ xs. length xs) c.in-Some.ensures.items,
            length-append c.pop.new.self.items (c.in-Some.job ∷ []),
            ap (λ xs. length xs) f.taken.items,
            length-append c.loop-job.passes.items (f.taken.pass ∷ []),
          );
      doors = λ roots fresh.
          finishing_one g.E.Door.Door roots (doors_in g.E.Door.Door c.args.running.items) c.pop.new.self.items c.loop-job.running.items c.in-Some.job c.loop-job.passes.items
          c.finish_job.new.passes.items c.in-Some.ensures.items (f.back roots) (i.doors roots fresh);
      begun = f.begun ∙ i.begun;
      shut = f.shut ∙ i.shut;
    }

pub returns-clause-doors : goal.returns-clause-doors
returns-clause-doors g c = λ roots fresh.
    let none : c.loop-job.running.items ≡ [] = grind (arith, common_steps) in
    finishing_all g.E.Door.Door roots (doors_in g.E.Door.Door c.args.running.items) c.loop-job.running.items c.loop-job.passes.items none (c.loop-job.invariant.doors roots fresh)
