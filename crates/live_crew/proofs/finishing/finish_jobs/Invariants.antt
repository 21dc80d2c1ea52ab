use Rattle.std.proofs.Common.{◌≡◌, List}
use Rattle.std.specs.Prelude.{vec_len}
use Rattle.std.specs.List.{All}
use Rattle.core_model.specs.Names.{Name}
use Rattle.hmr_hub.specs.Passes.{IsPassOf}
use Rattle.live_crew.specs.Crews.{HasRoom, RunsOn, passes_due}
use Rattle.live_crew.specs.Doors.{AreFresh, Finishing, doors_in}
use Rattle.live_crew.proofs.finishing.finish_jobs.Given as goal

-- those that are left run on, and there is room for what they leave
abbrev pub invariant-loop-job : goal.invariant-loop-job
invariant-loop-job g l = record {
  jobs : All (RunsOn g.E.Door.Door l.hub) l.running.items;
  room : HasRoom l.running l.passes;
  of : All (IsPassOf l.hub) l.passes.items;
  due : passes_due l.running l.passes ≡ passes_due l.fn.running l.fn.passes;
  doors : (roots : List Name) → AreFresh g.E.Door.Door roots l.fn.running.items
      → Finishing g.E.Door.Door roots (doors_in g.E.Door.Door l.fn.running.items) l.running.items l.passes.items;
  begun : g.P.Spawner.begun l.spawner ≡ g.P.Spawner.begun l.fn.spawner;
  shut : g.E.Entrance.is_shut l.entrance ≡ g.E.Entrance.is_shut l.fn.entrance;
}

abbrev pub decreases-loop-job : goal.decreases-loop-job
decreases-loop-job g l = vec_len l.running
