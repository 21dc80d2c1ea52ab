use Rattle.std.proofs.Common.{◌≡◌, ◌+◌, arith, length, rules, ap, sym, subst}
use Rattle.std.specs.List.{All}
use Rattle.std.specs.Arc.{arc_value}
use Rattle.serve_crew.specs.Crews.{RunsOn}
use Rattle.crew_plans.specs.Gathers.{IsGathered}
use Rattle.serve_crew.proofs.Crews.{gathered_same}
use Rattle.crew_plans.proofs.Faults.{gathers_then}
use Rattle.serve_crew.proofs.ending.finish_all.Goals as goal

pub finish_jobs-requires-clause-jobs : goal.finish_jobs-requires-clause-jobs
finish_jobs-requires-clause-jobs g c =
    let hub : c.deref.result.now ≡ arc_value c.args.crew.now.hub = search rules in
    subst (λ h. All (RunsOn g.N.End.Link h) c.args.crew.now.running.items) (sym hub) c.requires.crew.jobs

pub returns-clause-gathered : goal.returns-clause-gathered
returns-clause-gathered g c =
    let hub : c.deref.result.now ≡ arc_value c.args.crew.now.hub = search rules in
    let e = c.finish_clients.ensures in
    let jobs = c.finish_jobs.ensures.gathered (subst (λ h. IsGathered h c.args.crew.now.gathered) (sym hub) c.requires.crew.passes) in
    gathered_same (arc_value c.args.crew.now.hub) _ _ (ap (λ v. v.items) e.passes) e.full (subst (λ h. IsGathered h c.finish_jobs.new.gathered) hub jobs)

pub returns-clause-gathers : goal.returns-clause-gathers
returns-clause-gathers g c = gathers_then _ _ _ _ _ _ _ _ _ c.finish_jobs.ensures.gathers c.finish_clients.ensures.gathers

pub returns-clause-ends : goal.returns-clause-ends
returns-clause-ends g c =
    λ others h.
    let clients = length c.args.crew.now.clients.items in
    c.finish_clients.ensures.ends others (omega (arith, c.finish_jobs.ensures.ends (clients + others) (omega (arith, h))))
