use Rattle.std.proofs.Common.{◌≡◌}
use Rattle.std.specs.Prelude.{vec_len}
use Rattle.std.specs.List.{All, sum_by}
use Rattle.serve_crew.specs.Crews.{RunsOn, ends_held}
use Rattle.crew_plans.specs.Gathers.{Gathers, HasRoom, IsGathered, passes_due}
use Rattle.crew_plans.specs.Lendings.{Lends}
use Rattle.serve_crew.proofs.finishing.finish_jobs.Given as goal

-- those that are left run on, and there is room for what they leave
abbrev pub invariant-loop-job : goal.invariant-loop-job
invariant-loop-job g l =
    let faults = g.N.Net.faults in
    let starts = g.P.Spawner.faults in
    record {
      jobs : All (RunsOn g.N.End.Link l.hub) l.running.items;
      room : HasRoom l.running l.gathered.passes;
      gathered : IsGathered l.hub l.fn.gathered → IsGathered l.hub l.gathered;
      gathers : Gathers l.fn.gathered l.gathered (faults l.fn.net) (faults l.net) (starts l.fn.spawner) (starts l.spawner);
      asked : (g.N.Net.asked l.net ≡ g.N.Net.asked l.fn.net) × (g.N.Net.heard l.net ≡ g.N.Net.heard l.fn.net);
      begun : g.P.Spawner.begun l.spawner ≡ g.P.Spawner.begun l.fn.spawner;
      kept : passes_due l.running l.gathered ≡ passes_due l.fn.running l.fn.gathered;
      logs : l.gathered.logs ≡ l.fn.gathered.logs;
      ends : Lends (sum_by ends_held l.fn.running.items) (sum_by ends_held l.running.items) (g.N.Net.lent l.fn.net) (g.N.Net.lent l.net);
      unasked : (g.N.Net.refused l.net ≡ g.N.Net.refused l.fn.net) × (g.N.Net.late l.net ≡ g.N.Net.late l.fn.net);
    }

abbrev pub decreases-loop-job : goal.decreases-loop-job
decreases-loop-job g l = vec_len l.running
