use Rattle.std.proofs.Common.{◌∙◌, ◌≡◌, ◌+◌, true, false, drop, arith, rules}
use Rattle.std.specs.Prelude.{is_err}
use Rattle.world_model.specs.World.{settles}
use Rattle.event_runs.specs.Courses.{plain}
use Rattle.event_runs.specs.Playing.{play_step}
use Rattle.script_runs.specs.Playing.{nothing, quieted, settled_by}
use Rattle.script_runs.proofs.Playing.{next_job}
use Rattle.input_commands.proofs.Stepping.{from_ok}
use Rattle.input_commands.proofs.Writing.{more, stops}
use Rattle.input_commands.proofs.play.settle_jobs.Goals as goal

pub returns-then-is_err-clause-plays : goal.returns-then-is_err-clause-plays
returns-then-is_err-clause-plays g c = λ stage w h.
    let q = c.args.quiet in
    let jobs = c.args.jobs.now in
    let i = c.loop-name.name-index in
    let job = c.loop-name-item.result in
    let name = c.in-Ok.name in
    let call = c.play_step-played in
    let e : is_err call.result ≡ true = search rules in
    stops stage _ _ _ (λ v. quieted q (settled_by stage (drop i jobs) v))
    (λ v. quieted q (play_step stage (nothing v) (plain (settles name job.1))))
    (λ v. quieted q (settled_by stage (drop (i + 1) jobs) v)) _ c.loop-name.world call.new.world
    (λ v at. next_job stage jobs i job name q v c.loop-name-test.true c.loop-name-item.is c.in-Ok.ensures)
    call.result e (λ v at. call.ensures.plays stage v at) (c.loop-name.invariant.so_far stage w h)

pub loop-name-preserved : goal.loop-name-preserved
loop-name-preserved g c =
    let q = c.args.quiet in
    let jobs = c.args.jobs.now in
    let i = c.loop-name.name-index in
    let job = c.loop-name-item.result in
    let name = c.in-Ok.name in
    let call = c.play_step-played in
    let e : is_err call.result ≡ false = search rules in
    record {
      so_far = λ stage w h.
          more stage _ _ _ (λ v. quieted q (settled_by stage (drop i jobs) v))
          (λ v. quieted q (play_step stage (nothing v) (plain (settles name job.1))))
          (λ v. quieted q (settled_by stage (drop (i + 1) jobs) v)) _ c.loop-name.world call.new.world
          (λ v at. next_job stage jobs i job name q v c.loop-name-test.true c.loop-name-item.is c.in-Ok.ensures)
          call.result e (λ v at. call.ensures.plays stage v at) (c.loop-name.invariant.so_far stage w h);
      words = call.ensures.words;
      running = from_ok call.result e call.ensures.running;
      on = call.ensures.on ∙ c.loop-name.invariant.on;
      later = omega (arith, call.ensures.faults.later);
    }
