use Rattle.std.proofs.Common.{◌∙◌, ap, arith, length, rules, sum_by}
use Rattle.crew_plans.proofs.Counts.{begun_worker}
use Rattle.serve_crew.specs.Crews.{ends_held}
use Rattle.serve_crew.proofs.Begins.{begins_split}
use Rattle.serve_crew.proofs.starting.begin_worker.Goals as goal

pub returns-in_err-hub-clause-begins : goal.returns-in_err-hub-clause-begins
returns-in_err-hub-clause-begins g c =
    let s = c.split.ensures in
    begins_split _ _ s.hub s.crew s.of s.divided s.running s.same s.clients

pub returns-clause-begins : goal.returns-clause-begins
returns-clause-begins g c =
    let s = c.split.ensures in
    let b = c.begin.ensures in
    record {
      hub = b.hub ∙ s.hub;
      crew_is = b.crew;
      of = search rules;
      divided = s.divided;
      gathers = search rules;
      asked = search rules;
      heard = search rules;
      ends = λ others h. b.ends others (omega (arith, h, ap (λ xs. sum_by ends_held xs) s.running, ap (λ v. length v.items) s.clients));
      stops = λ h. b.unasked.1;
    }

pub returns-clause-all : goal.returns-clause-all
returns-clause-all g c =
    let s = c.split.ensures in
    let b = c.begin.ensures in
    record {
      begun = λ well. begun_worker _ _ (b.begun well);
      few = omega (arith, b.few);
      kept = omega (arith, b.kept, ap (λ xs. length xs) s.running, ap (λ xs. length xs) s.same.passes);
      logs = omega (arith, b.logs, ap (λ v. length v.items) s.clients, ap (λ xs. length xs) s.same.logs);
      goes = b.unasked.0;
    }
