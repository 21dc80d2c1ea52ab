-- What stands once jobs of a crew were begun, beside what stood before.
use Rattle.std.specs.Prelude.{◌≡◌, ◌≤◌, ◌+◌, ℕ, false, sum}
use Rattle.std.specs.Arc.{arc_value}
use Rattle.transport.specs.declared.link.Link as Link
use Rattle.transport.specs.declared.net.Net as Net
use Rattle.jobs.specs.declared.spawner.Spawner as Spawner
use Rattle.crew_plans.specs.Begun.{HasBegun}
use Rattle.crew_plans.specs.Gathers.{Gathers, logs_due, passes_due}
use Rattle.crew_plans.specs.Hubs.{IsPassOf, Pass}
use Rattle.crew_plans.specs.Lendings.{Lends}
use Rattle.crew_plans.specs.Splits.{Divided}
use Rattle.serve_crew.specs.declared.crew.Crew.{Crew}
use Rattle.serve_crew.specs.Crews.{IsCrew, ends_due}

module _ {R N G C E P : Type 0} {l : Link.Ghosts E} (n : Net.Ghosts N E) (s : Spawner.Ghosts P) where
  -- Some were begun, or none: the crew and the pass are of the hub as before, and nothing is lost. A fault is
  -- noted only where a count rose, each end that the net gave is with a job or was given back, and it gave
  -- none after it refused one.
  pub record Begins (crew crew' : Crew R N G C E l) (pass pass' : Pass) (net net' : N)
      (spawner spawner' : P) : Type 0 where
    pub hub : crew'.hub ≡ crew.hub
    pub crew_is : IsCrew l (arc_value crew'.hub) crew'.running crew'.clients crew'.gathered
    pub of : IsPassOf (arc_value crew'.hub) pass'
    pub divided : Divided pass pass'
    pub gathers : Gathers crew.gathered crew'.gathered
        (n.faults net) (n.faults net') (s.faults spawner) (s.faults spawner')
    pub asked : n.asked net' ≡ n.asked net
    pub heard : n.heard net' ≡ n.heard net
    pub ends : Lends (ends_due crew.running crew.clients) (ends_due crew'.running crew'.clients)
        (n.lent net) (n.lent net')
    pub stops : n.refused net ≡ false → n.late net' ≡ n.late net

  -- All were begun, so many workers, sessions and clients of the program's own, but for those whose start was
  -- refused: each leaves its pass or its log, and the net has refused no end.
  pub record BegunAll (workers sessions clients : ℕ) (crew crew' : Crew R N G C E l) (net net' : N)
      (spawner spawner' : P) : Type 0 where
    pub begun : crew'.gathered.fault ≡ false
        → HasBegun workers sessions clients (s.begun spawner) (s.begun spawner')
    pub few : sum (s.begun spawner') ≤ sum (s.begun spawner) + (workers + sessions + clients)
    pub kept : passes_due crew'.running crew'.gathered
        ≡ passes_due crew.running crew.gathered + (workers + sessions)
    pub logs : logs_due crew'.clients crew'.gathered ≡ logs_due crew.clients crew.gathered + clients
    pub goes : n.refused net' ≡ n.refused net
