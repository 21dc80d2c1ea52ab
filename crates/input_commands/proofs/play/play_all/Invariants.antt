use Rattle.std.proofs.Common.{◌≡◌, ◌≤◌, false, length}
use Rattle.std.specs.List.{All}
use Rattle.std.specs.Vec.Iter.{into_iter_items, into_iter_len}
use Rattle.world_model.specs.Playing.{Stage}
use Rattle.event_runs.specs.Courses.{Course}
use Rattle.event_runs.specs.Logs.{is_on}
use Rattle.event_world.specs.Standing.{IsRunning, KeepsWords}
use Rattle.play_script.specs.Asked.{HasFormat}
use Rattle.script_runs.specs.Playing.{perform}
use Rattle.input_commands.specs.Standing.{IsAt}
use Rattle.input_commands.proofs.Writing.{IsUpTo}
use Rattle.input_commands.proofs.play.play_all.Given as goal

-- the commands that are left are still to be played
abbrev pub invariant-lines : goal.invariant-lines
invariant-lines g l =
    let taken = g.K.LineSink.taken in
    let faults = g.K.LineSink.faults in
    record {
      so_far : (stage : Stage) (w : Course) → IsAt stage w l.fn.world →
          IsUpTo stage (taken l.fn.out) (taken l.out) (perform stage (into_iter_items l.line-iterator) l.quiet)
          (perform stage l.fn.lines.items false w) l.world;
      count : into_iter_len l.line-iterator ≡ length (into_iter_items l.line-iterator);
      formats : All HasFormat (into_iter_items l.line-iterator);
      words : KeepsWords (goal.F-post g) l.world;
      running : IsRunning l.world;
      on : is_on l.world.log ≡ is_on l.fn.world.log;
      later : faults l.fn.out ≤ faults l.out;
    }
