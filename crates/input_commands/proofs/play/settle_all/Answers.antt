use Rattle.std.proofs.Common.{◌∙◌}
use Rattle.std.proofs.Math.Path.{subst}
use Rattle.script_runs.specs.Playing.{quieted}
use Rattle.input_commands.specs.Standing.{Plays}
use Rattle.input_commands.proofs.Commanding.{jobs_at, settles_all}
use Rattle.input_commands.proofs.play.settle_all.Goals as goal

pub returns-clause-plays : goal.returns-clause-plays
returns-clause-plays g c = λ stage w h.
    let all = c.deref.ensures.value ∙ jobs_at stage w c.args.world.now h c.world.result.now c.world.ensures c.in-Ok.jobs.items c.in-Ok.ensures in
    let taken = g.K.LineSink.taken in
    let part = quieted c.args.quiet in
    let call = c.settle_jobs in
    subst (λ p. Plays stage (taken c.args.out.now) (taken call.new.out) (part p) call.new.world call.result)
    (settles_all stage w c.deref.result.now all) (call.ensures.plays stage w h)
