use Rattle.std.proofs.Common.{◌∙◌, ◌+◌, ap, arith, length, rules, subst, sum_by, sym}
use Rattle.client_jobs.specs.Clients.{IsReady}
use Rattle.crew_plans.proofs.Counts.{begun_then}
use Rattle.crew_plans.proofs.Faults.{unfaulted}
use Rattle.serve_crew.specs.Crews.{ends_held}
use Rattle.serve_crew.proofs.Crews.{crew_clients}
use Rattle.serve_crew.proofs.Lendings.{given_late}
use Rattle.serve_crew.proofs.Begins.{on_ok_two}
use Rattle.serve_crew.proofs.pairs.begin_pair.Goals as goal

pub begin_client-requires-clause-ready : goal.begin_client-requires-clause-ready
begin_client-requires-clause-ready g c κs within = subst (λ o. IsReady {F = g.row.F.Denot} _ _ o.shelf) (sym c.new-job.ensures.opening) c.requires.ready

pub begin_client-requires-clause-room : goal.begin_client-requires-clause-room
begin_client-requires-clause-room g c κs within = c.begin_session.ensures.crew.log_room

pub returns-in_err-theirs-clause-begins : goal.returns-in_err-theirs-clause-begins
returns-in_err-theirs-clause-begins g c = record {
  hub = search rules;
  crew_is = search rules;
  of = search rules;
  divided = search rules;
  gathers = search rules;
  asked = search rules;
  heard = search rules;
  ends = λ others h. omega (arith, h, c.in_err-theirs.ensures.kept.none_more);
  stops = search rules;
}

pub returns-in-Err-begin_session-clause-begins : goal.returns-in-Err-begin_session-clause-begins
returns-in-Err-begin_session-clause-begins g c =
    let b = c.begin_session.ensures in
    record {
      hub = b.hub;
      crew_is = b.crew;
      of = b.of;
      divided = b.divided;
      gathers = search rules;
      asked = search rules;
      heard = search rules;
      ends = λ others h.
          let session = b.ends (others + 1) (omega (arith, h, c.in_ok-theirs.ensures.gave.one_more, c.in-Ok.ensures.gave.one_more)) in
          omega (arith, session, c.hang_up-in-Err-begin_session.ensures.lent);
      stops = search rules;
    }

pub returns-clause-begins : goal.returns-clause-begins
returns-clause-begins g c =
    let b = c.begin_session.ensures in
    let e = c.begin_client.ensures in
    let one = c.in_ok-theirs.ensures.gave in
    record {
      hub = b.hub;
      crew_is = crew_clients g.N.End.Link _ _ _ _ _ _ b.crew e.passes e.full e.room;
      of = b.of;
      divided = b.divided;
      gathers = search rules;
      asked = search rules;
      heard = search rules;
      ends = λ others h.
          let session = b.ends (others + 1) (omega (arith, h, one.one_more, c.in-Ok.ensures.gave.one_more)) in
          omega (arith, e.ends (sum_by ends_held c.begin_session.new.self.running.items + others) (omega (arith, session)));
      stops = λ h.
          e.unasked.1
          ∙ (b.unasked.1 ∙ (given_late _ _ _ _ _ _ c.in-Ok.ensures.gave (one.refused_is ∙ h) ∙ given_late _ _ _ _ _ _ one h));
    }

pub returns-clause-all : goal.returns-clause-all
returns-clause-all g c =
    let b = c.begin_session.ensures in
    let e = c.begin_client.ensures in
    on_ok_two c.begin_client.result
    (λ begun logs. record {
      begun = λ well. begun_then _ _ _ _ _ _ _ _ _ (c.in_default.ensures.begun (unfaulted _ _ _ _ _ _ e.gathers well)) (begun well);
      few = omega (arith, b.few, e.few);
      kept = ap (λ v. length c.begin_session.new.self.running.items + length v.items) e.passes ∙ c.in_default.ensures.kept;
      logs = omega (arith, logs, b.logs);
      goes = search rules;
    })
    e.begun e.logs
