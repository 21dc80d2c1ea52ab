use Rattle.std.proofs.Common.{◌≡◌, rules, sym, subst}
use Rattle.std.specs.List.{All}
use Rattle.std.specs.Arc.{arc_value}
use Rattle.live_crew.specs.Crews.{RunsOn}
use Rattle.live_crew.proofs.crew.Crew.finish_all.Goals as goal

pub finish_jobs-requires-clause-jobs : goal.finish_jobs-requires-clause-jobs
finish_jobs-requires-clause-jobs g c =
    let hub : c.deref.result.now ≡ arc_value c.args.context.now.hub = search rules in
    subst (λ h. All (RunsOn g.E.Door.Door h) c.args.self.running.items) (sym hub) c.requires.crew.jobs
