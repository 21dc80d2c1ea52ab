use Rattle.std.proofs.Common.{◌≡◌, ◌≤◌, ◌+◌, ℕ, length, sum}
use Rattle.std.specs.List.{All}
use Rattle.std.specs.Arc.{arc_value}
use Rattle.transform_pool.specs.Passes as queues
use Rattle.transform_pool.specs.Passes.{role_of}
use Rattle.transform_pool.specs.Roles.{taking}
use Rattle.hmr_hub.specs.Passes.{IsPassOf, roots_of}
use Rattle.live_crew.specs.Crews.{IsCrew, passes_due}
use Rattle.live_crew.specs.Doors.{KeepsDoors}
use Rattle.live_crew.specs.Splits.{Divided}
use Rattle.live_crew.proofs.crew.Crew.begin_workers.Given as goal

-- workers were begun for the passes that are gone
abbrev pub invariant-loop-jobs : goal.invariant-loop-jobs
invariant-loop-jobs g l =
    let count = g.P.Spawner.begun in
    record {
      crew : IsCrew g.E.Door.Door (arc_value l.context.hub) l.self.running l.self.passes;
      of : IsPassOf (arc_value l.context.hub) l.pass;
      divided : Divided l.fn.pass l.pass;
      takers : All (λ p. queues.IsPassOf (arc_value l.context.queue) p) l.takers.items;
      take : All (λ p. role_of p ≡ taking) l.takers.items;
      made : ℕ;
      all : made + length l.takers.items ≡ length l.fn.takers.items;
      few : sum (count l.supply.spawner) ≤ sum (count l.fn.supply.spawner) + made;
      due : sum (count l.supply.spawner) + passes_due l.fn.self.running l.fn.self.passes ≤ sum (count l.fn.supply.spawner) + passes_due l.self.running l.self.passes;
      keeps : KeepsDoors g.E.Door.Door (roots_of l.fn.pass) (count l.fn.supply.spawner) (count l.supply.spawner) l.fn.self.running.items l.self.running.items;
      shut : g.E.Entrance.is_shut l.supply.entrance ≡ g.E.Entrance.is_shut l.fn.supply.entrance;
    }

abbrev pub decreases-loop-jobs : goal.decreases-loop-jobs
decreases-loop-jobs g l = length l.takers.items
