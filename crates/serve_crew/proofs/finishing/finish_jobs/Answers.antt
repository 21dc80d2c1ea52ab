use Rattle.std.proofs.Common.{length, ◌+◌, sum_by, ap, ◌∙◌, ◌∷◌, [], arith}
use Rattle.std.proofs.lemmas.List.{length-append}
use Rattle.serve_crew.specs.Crews.{RunsOn, ends_held}
use Rattle.serve_crew.proofs.Crews.{all_front, all_last}
use Rattle.crew_plans.proofs.Faults.{gathers_then}
use Rattle.serve_crew.proofs.Emptied.{lends_all}
use Rattle.serve_crew.proofs.Lendings.{sum_last}
use Rattle.serve_crew.proofs.finishing.finish_jobs.Goals as goal

pub finish_job-requires-clause-runs : goal.finish_job-requires-clause-runs
finish_job-requires-clause-runs g c = all_last (RunsOn g.N.End.Link c.args.hub.now) c.pop.new.self.items c.loop-job.running.items c.in-Some.job c.in-Some.ensures.items c.loop-job.invariant.jobs

pub loop-job-preserved : goal.loop-job-preserved
loop-job-preserved g c =
    let i = c.loop-job.invariant in
    let f = c.finish_job.ensures in
    let items = c.in-Some.ensures.items in
    record {
      jobs = all_front (RunsOn g.N.End.Link c.args.hub.now) c.pop.new.self.items c.loop-job.running.items c.in-Some.job items i.jobs;
      room = omega (arith, i.room, c.in-Some.ensures.cases, f.count, f.room);
      gathered = λ h. f.gathered (i.gathered h);
      gathers = gathers_then _ _ _ _ _ _ _ _ _ i.gathers f.gathers;
      asked = (f.asked.0 ∙ i.asked.0, f.asked.1 ∙ i.asked.1);
      begun = f.begun ∙ i.begun;
      kept = omega (arith, i.kept, f.kept, ap (λ xs. length xs) items, length-append c.pop.new.self.items (c.in-Some.job ∷ []));
      logs = f.logs ∙ i.logs;
      ends = λ others h.
          omega (
            arith,
            f.ends (sum_by ends_held c.pop.new.self.items + others)
                (omega (arith, i.ends others h, sum_last ends_held c.pop.new.self.items c.loop-job.running.items c.in-Some.job items)),
          );
      unasked = (f.unasked.0 ∙ i.unasked.0, f.unasked.1 ∙ i.unasked.1);
    }

pub returns-clause-ends : goal.returns-clause-ends
returns-clause-ends g c =
    lends_all ends_held c.args.running.now.items c.loop-job.running.items _ _ (omega (arith, c.in_default.ensures.cases.0, c.loop-job.running.ok.0))
    c.loop-job.invariant.ends
