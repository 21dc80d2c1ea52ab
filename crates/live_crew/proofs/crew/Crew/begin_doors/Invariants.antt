use Rattle.std.proofs.Common.{◌≡◌, ◌≤◌, ◌+◌, false, sum}
use Rattle.std.specs.Arc.{arc_value}
use Rattle.hmr_hub.specs.Passes.{IsPassOf, roots_of}
use Rattle.live_crew.specs.Crews.{IsCrew, passes_due}
use Rattle.live_crew.specs.Doors.{KeepsDoors}
use Rattle.live_crew.specs.Splits.{Divided}
use Rattle.live_crew.proofs.crew.Crew.begin_doors.Given as goal

-- so many doors were begun
abbrev pub invariant-loop : goal.invariant-loop
invariant-loop g l =
    let count = g.P.Spawner.begun in
    record {
      crew : IsCrew g.E.Door.Door (arc_value l.context.hub) l.self.running l.self.passes;
      of : IsPassOf (arc_value l.context.hub) l.pass;
      divided : Divided l.fn.pass l.pass;
      few : sum (count l.supply.spawner) ≤ sum (count l.fn.supply.spawner) + l.counter;
      due : sum (count l.supply.spawner) + passes_due l.fn.self.running l.fn.self.passes ≤ sum (count l.fn.supply.spawner) + passes_due l.self.running l.self.passes;
      keeps : KeepsDoors g.E.Door.Door (roots_of l.fn.pass) (count l.fn.supply.spawner) (count l.supply.spawner) l.fn.self.running.items l.self.running.items;
      going : g.E.Entrance.is_shut l.supply.entrance ≡ false;
    }
