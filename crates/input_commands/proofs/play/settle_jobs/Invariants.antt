use Rattle.std.proofs.Common.{◌≡◌, ◌≤◌, drop}
use Rattle.world_model.specs.Playing.{Stage}
use Rattle.event_runs.specs.Courses.{Course}
use Rattle.event_runs.specs.Logs.{is_on}
use Rattle.event_world.specs.Standing.{IsRunning, KeepsWords}
use Rattle.script_runs.specs.Playing.{quieted, settled_by}
use Rattle.input_commands.specs.Standing.{IsAt}
use Rattle.input_commands.proofs.Writing.{IsUpTo}
use Rattle.input_commands.proofs.play.settle_jobs.Given as goal

-- the results of the jobs that are left are still to come
abbrev pub invariant-loop-name : goal.invariant-loop-name
invariant-loop-name g l =
    let taken = g.K.LineSink.taken in
    let faults = g.K.LineSink.faults in
    record {
      so_far : (stage : Stage) (w : Course) → IsAt stage w l.fn.world →
          IsUpTo stage (taken l.fn.out) (taken l.out)
          (λ v. quieted l.quiet (settled_by stage (drop l.name-index l.jobs) v))
          (quieted l.quiet (settled_by stage l.jobs w)) l.world;
      words : KeepsWords (goal.F-post g) l.world;
      running : IsRunning l.world;
      on : is_on l.world.log ≡ is_on l.fn.world.log;
      later : faults l.fn.out ≤ faults l.out;
    }
