use Rattle.std.proofs.Common.{◌≡◌, length}
use Rattle.std.specs.Prelude.{vec_len}
use Rattle.crew_plans.specs.Gathers.{Gathers, HasRoom, logs_due}
use Rattle.crew_plans.specs.Lendings.{Lends}
use Rattle.client_jobs.proofs.finishing.finish_clients.Given as goal

-- there is room for what those that are left leave
abbrev pub invariant-loop-client : goal.invariant-loop-client
invariant-loop-client g l =
    let faults = g.N.Net.faults in
    let starts = g.P.Spawner.faults in
    record {
      room : HasRoom l.clients l.gathered.logs;
      passes : l.gathered.passes ≡ l.fn.gathered.passes;
      full : l.gathered.full ≡ l.fn.gathered.full;
      logs : logs_due l.clients l.gathered ≡ logs_due l.fn.clients l.fn.gathered;
      gathers : Gathers l.fn.gathered l.gathered (faults l.fn.net) (faults l.net) (starts l.fn.spawner) (starts l.spawner);
      asked : (g.N.Net.asked l.net ≡ g.N.Net.asked l.fn.net) × (g.N.Net.heard l.net ≡ g.N.Net.heard l.fn.net);
      begun : g.P.Spawner.begun l.spawner ≡ g.P.Spawner.begun l.fn.spawner;
      ends : Lends (length l.fn.clients.items) (length l.clients.items) (g.N.Net.lent l.fn.net) (g.N.Net.lent l.net);
      unasked : (g.N.Net.refused l.net ≡ g.N.Net.refused l.fn.net) × (g.N.Net.late l.net ≡ g.N.Net.late l.fn.net);
    }

abbrev pub decreases-loop-client : goal.decreases-loop-client
decreases-loop-client g l = vec_len l.clients
