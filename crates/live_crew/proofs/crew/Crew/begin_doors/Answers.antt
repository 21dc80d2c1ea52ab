use Rattle.std.proofs.Common.{arith}
use Rattle.live_crew.proofs.Doors.{doors_then}
use Rattle.live_crew.proofs.Passes.{divided_then}
use Rattle.live_crew.proofs.crew.Crew.begin_doors.Goals as goal

pub loop-preserved : goal.loop-preserved
loop-preserved g c =
    let i = c.loop.invariant in
    let b = c.begin_door.ensures in
    record {
      crew = b.crew;
      of = b.of;
      divided = divided_then _ _ _ i.divided b.divided;
      few = omega (arith, i.few, b.few);
      due = omega (arith, i.due, b.due);
      keeps = doors_then g.E.Door.Door _ _ _ _ _ _ _ _ i.divided i.keeps b.keeps;
      going = b.going;
    }

pub returns-in_err-begin_door-clause-divided : goal.returns-in_err-begin_door-clause-divided
returns-in_err-begin_door-clause-divided g c = divided_then _ _ _ c.loop.invariant.divided c.begin_door.ensures.divided

pub returns-in_err-begin_door-clause-keeps : goal.returns-in_err-begin_door-clause-keeps
returns-in_err-begin_door-clause-keeps g c =
    doors_then g.E.Door.Door _ _ _ _ _ _ _ _ c.loop.invariant.divided c.loop.invariant.keeps c.begin_door.ensures.keeps
